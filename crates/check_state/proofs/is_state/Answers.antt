-- `check_state::is_state` meets its contract.
use native.Mathlib.Omega.{arith}
use mathlib.Core.Path.{refl, sym}
use lib.Seq.{length-take-le}
use Rattle.check_state.proofs.Steps.{short-answer, answer}
use Rattle.language.specs.Limits as limit
use Rattle.check_state.proofs.is_state.Goals as goal

pub returns-then-state-lt-STATE : goal.returns-then-state-lt-STATE
returns-then-state-lt-STATE c =
    let args = c.args in
    short-answer args.task.table.cells.now args.task.first.now args.task.second.now args.state.now c.if-state-lt-STATE.true

pub slice_bounds-is_passed-end : goal.slice_bounds-is_passed-end
slice_bounds-is_passed-end c = sym (length-take-le limit.state c.args.state.now c.if-state-lt-STATE.false)

pub is_passed-requires : goal.is_passed-requires
is_passed-requires c =
    let args = c.args in
    let pre = c.requires in
    let if1 = c.if-state-lt-STATE in
    record { table = pre.table; long = length-take-le limit.state args.state.now if1.false; addresses_is = refl }

pub returns : goal.returns
returns c =
    let args = c.args in
    let pre = c.requires in
    let if1 = c.if-state-lt-STATE in
    let is-passed = c.is_passed in
    answer args.task.table.cells.now args.task.first.now args.task.second.now args.state.now pre if1.false (λ j. omega (arith, c.type_inv.state j)) is-passed.ensures
