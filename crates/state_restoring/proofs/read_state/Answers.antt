-- `state_restoring::read_state` meets its contract.
use mathlib.Core.Path.{◌≡◌, refl}
use Rattle.std.proofs.Common.{rules, Err}
use Rattle.check_calls.specs.AskedLaws.{has, of_task, of_lent}
use Rattle.state_restoring.specs.Restoring.{Restorable, Restored}
use Rattle.state_restoring.proofs.Reader.{refused-early, refused-63, refused-68, restorable, refused-69, accepted}
use Rattle.state_restoring.proofs.read_state.Goals as goal

pub returns-in_err-task : goal.returns-in_err-task
returns-in_err-task c =
    let a = c.args in
    let e : c.from_residual.result ≡ Err c.in_err-task.field-0.0 = search rules in
    refused-early a.lent.table.now a.lent.first.now a.lent.second.now a.text.now a.state.now c.ask.ensures.is c.in_err-task.was e

pub returns-then-state-lt-STATE : goal.returns-then-state-lt-STATE
returns-then-state-lt-STATE c =
    let a = c.args in
    refused-63 a.lent.table.now a.lent.first.now a.lent.second.now a.text.now a.state.now c.ask.ensures.is c.in_ok-task.was c.if-state-lt-STATE.true

pub returns-then-not-is_sound_text : goal.returns-then-not-is_sound_text
returns-then-not-is_sound_text c =
    let a = c.args in
    refused-68 a.lent.table.now a.lent.first.now a.lent.second.now a.text.now a.state.now c.ask.ensures.is c.in_ok-task.was c.if-state-lt-STATE.false c.is_sound_text.ensures c.if-not-is_sound_text.true

pub restore-requires : goal.restore-requires
restore-requires c =
    let a = c.args in
    let r = restorable a.lent.table.now a.lent.first.now a.lent.second.now a.text.now a.state.now c.ask.ensures.is c.in_ok-task.was c.if-state-lt-STATE.false c.is_sound_text.ensures c.if-not-is_sound_text.false refl in
    of_task (has c.ask.ensures c.in_ok-task.was) (λ c' i j. Restorable c' i j a.text.now _) r

pub returns-then-not-restore : goal.returns-then-not-restore
returns-then-not-restore c =
    let a = c.args in
    let r = of_lent (has c.ask.ensures c.in_ok-task.was) (λ c' i j. Restored c' i j a.text.now c.restore.result c.restore.new.m) c.restore.ensures in
    refused-69 a.lent.table.now a.lent.first.now a.lent.second.now a.text.now a.state.now c.ask.ensures.is c.in_ok-task.was c.if-state-lt-STATE.false c.is_sound_text.ensures c.if-not-is_sound_text.false r c.if-not-restore.true

pub returns : goal.returns
returns c =
    let a = c.args in
    let r = of_lent (has c.ask.ensures c.in_ok-task.was) (λ c' i j. Restored c' i j a.text.now c.restore.result c.restore.new.m) c.restore.ensures in
    accepted a.lent.table.now a.lent.first.now a.lent.second.now a.text.now a.state.now c.ask.ensures.is c.in_ok-task.was c.if-state-lt-STATE.false c.is_sound_text.ensures c.if-not-is_sound_text.false r c.if-not-restore.false c.put.ensures
