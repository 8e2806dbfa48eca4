-- `arithmetic::difference` meets its contract.
use mathlib.Core.Path.{subst}
use lib.IntN.{ℤ, ◌+ℤ◌}
use Rattle.layout.specs.Cells.{uncode}
use Rattle.arithmetic.specs.Arithmetic.{InRange}
use Rattle.arithmetic.proofs.Numbers.{mirrored}
use Rattle.arithmetic.proofs.difference.Goals as goal

pub returns : goal.returns
returns c = subst (λ (z : ℤ). InRange (uncode c.args.a +ℤ z) c.sum.result) (mirrored c.args.b c.requires.right) c.sum.ensures
