-- `gaps::gap_start` meets its contract.
use Prim.Native.Nat.{◌-◌, ◌*◌}
use native.Mathlib.Omega.{arith}
use Rattle.gaps.proofs.gap_start.Goals as goal

pub returns : goal.returns
returns c =
    let o = c.requires.ordered in
    let i = 2 * c.args.i - 1 in
    record { all = λ k h. omega (arith, c.read.ensures, o.order k i (omega arith) (omega arith)); most = omega (arith, c.read.ensures, o.last i (omega arith)) }
