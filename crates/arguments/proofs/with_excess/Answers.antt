-- `arguments::with_excess` meets its contract.
use mathlib.Core.Path.{◌≡◌, refl, ap, ◌∙◌}
use mathlib.Core.Bool.{Bool, true, false}
use Prim.Native.Nat.{ℕ}
use Rattle.std.specs.Bool.{then_some}
use Rattle.statements.specs.Faults.{Fault, lower}
use Rattle.heads.specs.HeadLaws.{lower-clear}
use Rattle.arguments.specs.Arguments.{with_excess}
use Rattle.arguments.proofs.with_excess.Goals as goal

one-more : (b : Bool) (over : Fault) (at : ℕ) → lower over (then_some b at) ≡ with_excess over b at
one-more true over at = refl
one-more false over at = lower-clear over

pub returns : goal.returns
returns c = c.lower.ensures ∙ ap (lower c.args.over) c.then_some.ensures ∙ one-more _ _ _
