-- `macro_loading::load` meets its contract.
use mathlib.Core.Path.{sym, ◌∙◌}
use Rattle.macro_loading.proofs.Outcomes.{not-fit, fit_both, loads-accepted, loads-plain, rewritable, loads-written}
use Rattle.macro_loading.proofs.load.Goals as goal

pub returns-then-table-text : goal.returns-then-table-text
returns-then-table-text c = not-fit c.args.text.now c.args.table.now c.if-table-text.true

pub returns-then-is_ok : goal.returns-then-is_ok
returns-then-is_ok c =
    loads-accepted (fit_both c.args.text.now c.args.table.now c.if-table-text.false) c.load_typed-typed.ensures (sym c.is_ok.ensures.value ∙ c.if-is_ok.true)

pub returns-then-not-has_macros : goal.returns-then-not-has_macros
returns-then-not-has_macros c =
    loads-plain (fit_both c.args.text.now c.args.table.now c.if-table-text.false) c.load_typed-typed.ensures (sym c.has_macros.ensures ∙ c.if-not-has_macros.true)

pub load_written-requires : goal.load_written-requires
load_written-requires c =
    rewritable (fit_both c.args.text.now c.args.table.now c.if-table-text.false) c.load_typed-typed.ensures (sym c.is_ok.ensures.value ∙ c.if-is_ok.false) (sym c.has_macros.ensures ∙ c.if-not-has_macros.false)

pub returns : goal.returns
returns c =
    loads-written (fit_both c.args.text.now c.args.table.now c.if-table-text.false) c.load_typed-typed.ensures (sym c.is_ok.ensures.value ∙ c.if-is_ok.false) c.load_written.ensures
