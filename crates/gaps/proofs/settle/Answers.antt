-- `gaps::settle` meets its contract.
use native.Mathlib.Omega.{arith}
use Rattle.gaps.proofs.Laws.{spanned, length-lent}
use Rattle.gaps.proofs.Spread.{settled-more}
use Rattle.gaps.proofs.settle.Goals as goal

pub put-requires : goal.put-requires
put-requires c =
    let pre = c.requires in
    let s = spanned pre.ordered c.loop-j-test.true in
    let long = length-lent c.args.scratch.now c.args.ends.now c.loop-j.j s.ordered (omega (arith, s.most, pre.spare)) c.string_at.ensures in
    omega (arith, long, s.most, c.read-at.ensures.is, c.loop-j.invariant.size)

pub loop-j-preserved : goal.loop-j-preserved
loop-j-preserved c = settled-more c.requires c.loop-j.invariant c.loop-j-test.true (rw (← c.read-at.ensures.is, ← c.string_at.ensures) c.put.ensures)
