-- `reading_statements::ask_head` meets its contract.
use Rattle.statements.specs.StatementAt.{statement_at}
use mathlib.Core.Path.{sym, ap, ◌≡◌, ◌∙◌}
use native.Mathlib.Omega.{arith}
use Rattle.std.proofs.Common.{rules, Err}
use Rattle.acceptance.proofs.RowLaws.{answered}
use Rattle.statements.specs.Faults.{decided, then, verdict_of}
use Rattle.judging.specs.Below.RepeatedLaws.{marks-within, marks-before}
use Rattle.reading_statements.specs.GatheringLaws as gathering
use Rattle.reading_statements.specs.QuestionLaws.{items-told, names-told, opening-told}
use Rattle.reading_statements.proofs.ask_head.Goals as goal

pub first_waiting-requires : goal.first_waiting-requires
first_waiting-requires c = c.requires.judging.tells.waiting.few

pub slice_bounds-label_fault-start : goal.slice_bounds-label_fault-start
slice_bounds-label_fault-start c =
    let p = c.requires in
    omega (arith, c.first_waiting.ensures, (gathering.labels-inside p.judging (answered _ (items-told c.args.text.now p.place p.worst_is ∙ ap verdict_of c.in_ok-worst.was))).0)

pub slice_bounds-label_fault-end : goal.slice_bounds-label_fault-end
slice_bounds-label_fault-end c =
    let p = c.requires in
    omega (arith, (gathering.labels-inside p.judging (answered _ (items-told c.args.text.now p.place p.worst_is ∙ ap verdict_of c.in_ok-worst.was))).1)

pub ask_names-named-requires : goal.ask_names-named-requires
ask_names-named-requires c =
    let p = c.requires in
    let r = gathering.repeatable p.judging (answered _ (items-told c.args.text.now p.place p.worst_is ∙ ap verdict_of c.in_ok-worst.was)) in
    let order = (gathering.advanceable p.judging).order in
    (marks-before r c.args.p.names order, marks-within r c.args.p.names c.args.head.names (omega arith))

pub returns-in_err-worst : goal.returns-in_err-worst
returns-in_err-worst c = λ n d j e z.
    let f : c.from_residual.result ≡ Err c.in_err-worst.field-0.0 = search rules in
    ap verdict_of f ∙ sym (opening-told d (statement_at c.args.text.now n) (items-told c.args.text.now n e ∙ ap verdict_of c.in_err-worst.was))

pub returns : goal.returns
returns c =
    λ n d j e z.
    let x = statement_at c.args.text.now n in
    let q = items-told c.args.text.now n e ∙ ap verdict_of c.in_ok-worst.was in
    let plain = answered _ q in
    let first = j.tells.section.first_is in
    names-told d x first j.tells.edition.is (c.ask_operator-operator.ensures _ n j.headed (λ e. z (first ∙ e)))
    (c.decide-labels.ensures ∙ ap (decided 8) (gathering.labels-told j plain (rw c.first_waiting.ensures at c.label_fault.ensures)))
    (c.ask_names-named.ensures ∙ gathering.names-told j plain)
    (c.first_of-2.ensures ∙ ap (then (verdict_of c.ask_operator-operator.result)) c.first_of.ensures)
    ∙ sym (opening-told d x q)
