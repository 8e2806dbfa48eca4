-- `state_saving::write_state` meets its contract.
use native.Mathlib.Omega.{arith}
use mathlib.Core.List.{[], ◌∷◌}
use mathlib.Core.Path.{◌≡◌, sym}
use lib.Seq.{length-take-le}
use Rattle.std.proofs.Common.{rules, Err}
use Rattle.check_calls.specs.AskedLaws.{has, of_task, of_lent}
use Rattle.check_state.specs.Asked.{Asked}
use Rattle.layout.specs.Memory.{good_memory}
use Rattle.layout.specs.Table.{program_of}
use Rattle.state_saving.proofs.Outcomes.{first_gives, asked, ill-gives, saveable, narrow_gives, fitting-gives}
use Rattle.state_saving.proofs.write_state.Goals as goal

pub returns-in_err-task : goal.returns-in_err-task
returns-in_err-task c =
    let a = c.args in
    let e : c.from_residual.result ≡ Err c.in_err-task.field-0.0 = search rules in
    first_gives a.lent.table.now a.lent.first.now a.lent.second.now a.state.now a.out.now c.ask.ensures.is c.in_err-task.was e

pub is_state-requires : goal.is_state-requires
is_state-requires c =
    let a = c.args in
    of_task (has c.ask.ensures c.in_ok-task.was) Asked (asked a.lent.table.now a.lent.first.now a.lent.second.now a.state.now a.out.now c.ask.ensures.is c.in_ok-task.was)

pub returns-then-not-is_state : goal.returns-then-not-is_state
returns-then-not-is_state c =
    let a = c.args in
    let y = asked a.lent.table.now a.lent.first.now a.lent.second.now a.state.now a.out.now c.ask.ensures.is c.in_ok-task.was in
    let d = of_lent (has c.ask.ensures c.in_ok-task.was) (λ c' i j. c.is_state.result ≡ good_memory (program_of c') (i ∷ j ∷ []) a.state.now) c.is_state.ensures in
    ill-gives a.lent.table.now a.lent.first.now a.lent.second.now a.state.now a.out.now y d (c.if-not-is_state.true)

pub put_saved-n-requires : goal.put_saved-n-requires
put_saved-n-requires c =
    let a = c.args in
    let y = asked a.lent.table.now a.lent.first.now a.lent.second.now a.state.now a.out.now c.ask.ensures.is c.in_ok-task.was in
    let d = of_lent (has c.ask.ensures c.in_ok-task.was) (λ c' i j. c.is_state.result ≡ good_memory (program_of c') (i ∷ j ∷ []) a.state.now) c.is_state.ensures in
    (saveable a.lent.table.now a.lent.first.now a.lent.second.now a.state.now a.out.now y d (c.if-not-is_state.false), omega arith)

pub returns-then-out-n : goal.returns-then-out-n
returns-then-out-n c =
    let a = c.args in
    let y = asked a.lent.table.now a.lent.first.now a.lent.second.now a.state.now a.out.now c.ask.ensures.is c.in_ok-task.was in
    let d = of_lent (has c.ask.ensures c.in_ok-task.was) (λ c' i j. c.is_state.result ≡ good_memory (program_of c') (i ∷ j ∷ []) a.state.now) c.is_state.ensures in
    narrow_gives a.lent.table.now a.lent.first.now a.lent.second.now a.state.now a.out.now y d (c.if-not-is_state.false) c.put_saved-n.ensures c.if-out-n.true

pub slice_bounds-put-end : goal.slice_bounds-put-end
slice_bounds-put-end c =
    let r = c.put_saved-n in
    sym (length-take-le r.result r.new.out (omega (arith, r.ensures.most)))

pub put-requires : goal.put-requires
put-requires c =
    let r = c.put_saved-n in
    omega (arith, length-take-le r.result r.new.out (omega (arith, r.ensures.most)), c.if-out-n.false)

pub returns : goal.returns
returns c =
    let a = c.args in
    let y = asked a.lent.table.now a.lent.first.now a.lent.second.now a.state.now a.out.now c.ask.ensures.is c.in_ok-task.was in
    let d = of_lent (has c.ask.ensures c.in_ok-task.was) (λ c' i j. c.is_state.result ≡ good_memory (program_of c') (i ∷ j ∷ []) a.state.now) c.is_state.ensures in
    fitting-gives a.lent.table.now a.lent.first.now a.lent.second.now a.state.now a.out.now y d (c.if-not-is_state.false) c.put_saved-n.ensures c.if-out-n.false c.put.ensures
