-- `arguments::word_kind` meets its contract.
use mathlib.Core.Path.{sym, ◌∙◌}
use Rattle.arguments.specs.ValueLaws.{number_read, nothing_read}
use Rattle.arguments.proofs.word_kind.Goals as goal

pub returns-in-Some : goal.returns-in-Some
returns-in-Some c = number_read c.args.w.now (sym c.identifier.ensures ∙ c.if-identifier.false) (sym c.in-Some.is ∙ c.number_of.ensures)

pub returns-in-None : goal.returns-in-None
returns-in-None c = nothing_read c.args.w.now (sym c.identifier.ensures ∙ c.if-identifier.false) (sym c.in-None.is ∙ c.number_of.ensures)
