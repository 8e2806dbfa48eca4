-- `gaps::carry` meets its contract.
use native.Mathlib.Omega.{arith}
use Rattle.gaps.proofs.Laws.{length-lent}
use Rattle.gaps.proofs.carry.Goals as goal

pub lay-requires : goal.lay-requires
lay-requires c =
    let pre = c.requires in
    let long = length-lent c.args.pool.now c.args.ends.now c.args.j pre.ordered pre.most c.string_at-bytes.ensures in
    record { index = pre.index; cells = pre.cells; within = omega (arith, pre.within); size = pre.size }

pub returns : goal.returns
returns c =
    let pre = c.requires in
    let long = length-lent c.args.pool.now c.args.ends.now c.args.j pre.ordered pre.most c.string_at-bytes.ensures in
    record { ends = omega (arith, long); laid = rw c.string_at-bytes.ensures at c.lay.ensures }
