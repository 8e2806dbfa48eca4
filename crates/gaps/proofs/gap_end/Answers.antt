-- `gaps::gap_end` meets its contract.
use Prim.Native.Nat.{◌*◌}
use native.Mathlib.Omega.{arith}
use Rattle.gaps.proofs.gap_end.Goals as goal

pub returns : goal.returns
returns c =
    let o = c.requires.ordered in
    let i = 2 * c.args.i in
    record { all = λ k h b. omega (arith, c.read.ensures, o.order i k (omega arith) b); most = omega (arith, c.read.ensures, o.last i (omega arith)) }
