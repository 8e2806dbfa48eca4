-- `linking::resolve` meets its contract.
use mathlib.Core.Path.{sym, ap, ◌∙◌}
use Rattle.std.proofs.lemmas.Result.{err_from_is_err_and}
use Rattle.statements.specs.Faults.{verdict_of}
use Rattle.linking.proofs.Answers.{no_label, no_switch, none-at, entries-labelled, all-linked}
use Rattle.linking.proofs.Faults.{asking}
use Rattle.linking.proofs.Uses.{bounded}
use Rattle.linking.proofs.resolve.Goals as goal

pub invariant_of-draft-2 : goal.invariant_of-draft-2
invariant_of-draft-2 c = record { bounded = bounded c.told-sw (asking c.requires) }

pub undeclared_label-requires : goal.undeclared_label-requires
undeclared_label-requires c = c.requires

pub returns-in_err-decide : goal.returns-in_err-decide
returns-in_err-decide c =
    let a = c.args in
    let e = err_from_is_err_and c.from_residual.result c.from_residual.ensures.1 in
    rw (e.1, e.2) (no_label a.text.now a.table.now a.sw.now a.en.now _ c.undeclared_label.ensures (sym (ap verdict_of c.in_err-decide.was) ∙ c.decide.ensures))

pub undeclared_switch-requires : goal.undeclared_switch-requires
undeclared_switch-requires c = c.requires

pub returns-in_err-decide-2 : goal.returns-in_err-decide-2
returns-in_err-decide-2 c =
    let a = c.args in
    let e = err_from_is_err_and c.from_residual-in_err-decide-2.result c.from_residual-in_err-decide-2.ensures.1 in
    let n = none-at 12 _ c.in_ok-decide.was c.decide.ensures in
    rw (e.1, e.2) (no_switch a.text.now a.table.now a.sw.now a.en.now c.undeclared_label.ensures n _ c.undeclared_switch.ensures (sym (ap verdict_of c.in_err-decide-2.was) ∙ c.decide-2.ensures))

pub resolve_code-requires : goal.resolve_code-requires
resolve_code-requires c = asking c.requires

pub resolve_entries-requires : goal.resolve_entries-requires
resolve_entries-requires c =
    let a = c.args in
    entries-labelled a.text.now a.table.now a.sw.now a.en.now c.undeclared_label.ensures (none-at 12 _ c.in_ok-decide.was c.decide.ensures) c.requires c.resolve_code.ensures

pub returns : goal.returns
returns c =
    let a = c.args in
    all-linked a.text.now a.table.now a.sw.now a.en.now c.undeclared_label.ensures (none-at 12 _ c.in_ok-decide.was c.decide.ensures) c.undeclared_switch.ensures (none-at 13 _ c.in_ok-decide-2.was c.decide-2.ensures)
    c.resolve_code.ensures c.resolve_entries.ensures
