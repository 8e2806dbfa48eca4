-- `heads::is_name` meets its contract.
use mathlib.Core.Path.{sym, ◌∙◌}
use Rattle.language.specs.Program.{identifier}
use Rattle.heads.specs.HeadLaws.{word-passes}
use Rattle.heads.proofs.is_name.Goals as goal

pub returns-then-is : goal.returns-then-is
returns-then-is c = c.identifier.ensures ∙ sym (word-passes c.args.text.now c.args.t (sym c.is.ensures ∙ c.if-is.true) identifier)
