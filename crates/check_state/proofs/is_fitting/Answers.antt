-- `check_state::is_fitting` meets its contract.
use mathlib.Core.Path.{subst}
use Rattle.cells.specs.Cells.{Number}
use Rattle.layout.specs.Cells.{three_at}
use Rattle.layout.specs.Places as layout
use Rattle.check_state.proofs.Steps.{fits}
use Rattle.check_state.proofs.is_fitting.Goals as goal

pub returns : goal.returns
returns c =
    let a = c.args.task in
    let e = c.cells-m.ensures.is in
    let first = subst (λ l. Number (three_at layout.first_place_cell l) 16777216 c.three_at.result) e c.three_at.ensures in
    let second = subst (λ l. Number (three_at layout.second_place_cell l) 16777216 c.three_at-2.result) e c.three_at-2.ensures in
    let next = subst (λ l. Number (three_at layout.next_cell l) 16777216 c.three_at-3.result) e c.three_at-3.ensures in
    fits a.table.cells.now c.requires a.first.now a.second.now c.args.memory.now c.string.ensures c.string-2.ensures c.string-3.ensures first second next c.instructions.ensures c.is_stack.ensures c.is_output.ensures c.is_output-2.ensures
