-- `interpreter::run` meets its contract.
use mathlib.Core.Path.{◌≡◌, refl, sym, ap, ◌∙◌}
use mathlib.Core.List.{[], ◌∷◌}
use Rattle.std.proofs.Common.{rules, Err}
use Rattle.calls.specs.Calls.{packed}
use Rattle.calls.specs.Calls.Call.{run_on}
use Rattle.check_calls.specs.Asked.{told_by}
use Rattle.check_calls.specs.AskedLaws.{some, has, of_task, of_lent}
use Rattle.check_state.specs.Asked.{Asked}
use Rattle.class_running.specs.Below.Running.{Runnable, RanOn}
use Rattle.layout.specs.Memory.{good_memory}
use Rattle.layout.specs.Table.{program_of}
use Rattle.interpreter.proofs.Deciding.{refused-early, refused-63, asked, runnable, run-made}
use Rattle.interpreter.proofs.run.Goals as goal

pub returns-in_err-task : goal.returns-in_err-task
returns-in_err-task c =
    let lent = c.args.lent in
    let ins = lent.first.now ∷ lent.second.now ∷ [] in
    let e : c.from_residual.result ≡ Err c.in_err-task.field-0.0 = search rules in
    let told = ap told_by c.in_err-task.was in
    rw e (refused-early lent.table.now c.args.state.now (run_on ins c.args.budget) c.ask.ensures.is (λ z. some c.in_err-task.field-0.0 (sym told ∙ z)) (ap (λ k. packed k 0) (sym told)))

pub is_state-requires : goal.is_state-requires
is_state-requires c =
    let lent = c.args.lent in
    of_task (has c.ask.ensures c.in_ok-task.was) Asked (asked lent.table.now lent.first.now lent.second.now c.args.state.now c.args.budget c.ask.ensures.is (ap told_by c.in_ok-task.was))

pub returns-then-not-is_state : goal.returns-then-not-is_state
returns-then-not-is_state c =
    let lent = c.args.lent in
    let ins = lent.first.now ∷ lent.second.now ∷ [] in
    let d = of_lent (has c.ask.ensures c.in_ok-task.was) (λ c' i j. c.is_state.result ≡ good_memory (program_of c') (i ∷ j ∷ []) c.args.state.now) c.is_state.ensures in
    refused-63 lent.table.now c.args.state.now (run_on ins c.args.budget) c.ask.ensures.is (ap told_by c.in_ok-task.was) (sym d ∙ c.if-not-is_state.true) refl

pub run-requires : goal.run-requires
run-requires c =
    let lent = c.args.lent in
    let h = has c.ask.ensures c.in_ok-task.was in
    let d = of_lent h (λ c' i j. c.is_state.result ≡ good_memory (program_of c') (i ∷ j ∷ []) c.args.state.now) c.is_state.ensures in
    of_task h (λ c' i j. Runnable c' i j c.args.state.now) (runnable lent.table.now lent.first.now lent.second.now c.args.state.now c.args.budget c.ask.ensures.is (ap told_by c.in_ok-task.was) d c.if-not-is_state.false)

pub returns : goal.returns
returns c =
    let lent = c.args.lent in
    let h = has c.ask.ensures c.in_ok-task.was in
    let d = of_lent h (λ c' i j. c.is_state.result ≡ good_memory (program_of c') (i ∷ j ∷ []) c.args.state.now) c.is_state.ensures in
    let r = of_lent h (λ c' i j. RanOn c' i j c.args.budget c.args.state.now c.run.result c.run.new.state) c.run.ensures in
    run-made lent.table.now lent.first.now lent.second.now c.args.state.now c.args.budget c.ask.ensures.is (ap told_by c.in_ok-task.was) d c.if-not-is_state.false r refl
