-- `check_table::is_table` meets its contract.
use mathlib.Core.Path.{sym, ◌∙◌}
use Rattle.check_table.specs.QuestionLaws.{too_short, no-counts, counted_of, by_parts}
use Rattle.check_table.proofs.is_table.Goals as goal

pub returns-then-cells-lt-TABLE : goal.returns-then-cells-lt-TABLE
returns-then-cells-lt-TABLE c = too_short c.args.cells.now c.if-cells-lt-TABLE.true

pub returns-then-not-counts_fit : goal.returns-then-not-counts_fit
returns-then-not-counts_fit c = no-counts c.args.cells.now c.if-cells-lt-TABLE.false (sym c.counts_fit.ensures ∙ c.if-not-counts_fit.true)

pub parts_fit-requires : goal.parts_fit-requires
parts_fit-requires c = counted_of c.args.cells.now c.if-cells-lt-TABLE.false (sym c.counts_fit.ensures ∙ c.if-not-counts_fit.false)

pub returns : goal.returns
returns c = c.parts_fit.ensures ∙ by_parts c.args.cells.now c.if-cells-lt-TABLE.false (sym c.counts_fit.ensures ∙ c.if-not-counts_fit.false)
