-- `interpreter::begin` meets its contract.
use mathlib.Core.Path.{◌≡◌, refl, sym, ap, ◌∙◌}
use mathlib.Core.List.{[], ◌∷◌}
use Rattle.std.proofs.Common.{rules, Err}
use Rattle.calls.specs.Calls.{packed}
use Rattle.calls.specs.Calls.Call.{start_on}
use Rattle.check_calls.specs.Asked.{told_by}
use Rattle.check_calls.specs.AskedLaws.{some}
use Rattle.interpreter.proofs.Deciding.{refused-early, short-63, start-made}
use Rattle.interpreter.proofs.begin.Goals as goal

pub returns-in_err-ask : goal.returns-in_err-ask
returns-in_err-ask c =
    let lent = c.args.lent in
    let ins = lent.first.now ∷ lent.second.now ∷ [] in
    let e : c.from_residual.result ≡ Err c.in_err-ask.field-0.0 = search rules in
    let told = ap told_by c.in_err-ask.was in
    rw e (refused-early lent.table.now c.args.state.now (start_on ins) c.ask.ensures.is (λ z. some c.in_err-ask.field-0.0 (sym told ∙ z)) (ap (λ k. packed k 0) (sym told)))

pub returns-then-state-lt-STATE : goal.returns-then-state-lt-STATE
returns-then-state-lt-STATE c =
    let lent = c.args.lent in
    short-63 lent.table.now c.args.state.now (lent.first.now ∷ lent.second.now ∷ []) c.ask.ensures.is (ap told_by c.in_ok-ask.was) c.if-state-lt-STATE.true refl

pub start-requires : goal.start-requires
start-requires c = c.if-state-lt-STATE.false

pub returns : goal.returns
returns c =
    let lent = c.args.lent in
    start-made lent.table.now c.args.state.now (lent.first.now ∷ lent.second.now ∷ []) c.ask.ensures.is (ap told_by c.in_ok-ask.was) c.if-state-lt-STATE.false refl c.start.ensures
