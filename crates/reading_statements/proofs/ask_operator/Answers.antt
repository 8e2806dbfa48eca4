-- `reading_statements::ask_operator` meets its contract.
use Rattle.statements.specs.StatementAt.{statement_at}
use mathlib.Core.Path.{sym, ap, ◌∙◌}
use Rattle.statements.specs.Faults.{decided}
use Rattle.std.specs.Option.{is_none}
use Rattle.reading_statements.specs.Asking.{operator_verdict}
use Rattle.words.specs.Keywords.{is_english}
use Rattle.reading_statements.proofs.ask_operator.Goals as goal

pub returns-in-None : goal.returns-in-None
returns-in-None c = λ s n g z.
    c.decide.ensures ∙ ap (decided 0) (z (ap is_none c.in-None.is)) ∙ sym (ap (λ o. operator_verdict (statement_at s n) (is_none o) (is_english c.args.p.edition)) c.in-None.is)

pub returns-in-Some : goal.returns-in-Some
returns-in-Some c = λ s n g z.
    c.decide-in-Some.ensures ∙ ap (decided 10) (c.operator_fault.ensures s n g) ∙ sym (ap (λ o. operator_verdict (statement_at s n) (is_none o) (is_english c.args.p.edition)) c.in-Some.is)
