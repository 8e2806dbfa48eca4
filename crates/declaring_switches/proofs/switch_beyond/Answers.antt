-- `declaring_switches::switch_beyond` meets its contract.
use mathlib.Core.Path.{ap, ◌∙◌}
use mathlib.Core.List.{[], ◌∷◌}
use Prim.Native.Nat.{ℕ}
use Rattle.statements.specs.StatementAt.{fault_of}
use Rattle.syntax.specs.Questions.{beyond}
use Rattle.writing.proofs.Held.{switch_count}
use Rattle.declaring_switches.proofs.switch_beyond.Goals as goal

pub returns : goal.returns
returns c = λ p h. c.in_excess.ensures ∙ ap (λ (n : ℕ). fault_of (beyond 32 n (c.args.at ∷ []))) (c.switches.ensures.is ∙ switch_count c.args.table.cells.now p h)
