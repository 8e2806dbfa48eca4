-- `arguments::accepted` meets its contract.
use Rattle.std.proofs.Common.{ap, sym, ◌∙◌, ℕ}
use Rattle.std.proofs.lemmas.Result.{err_from_is_err_and}
use Rattle.std.specs.Option.{ok_or}
use Rattle.std.specs.Result.{result_ok}
use Rattle.std.specs.Prelude.{Option, Result, None, Some}
use Rattle.forms.specs.declared.Taken.{Taken}
use Rattle.arguments.specs.Arguments.{as_read}
use Rattle.arguments.proofs.Accepting.{colon-told, none-told, some-told}
use Rattle.arguments.proofs.accepted.Goals as goal

pub returns-then-is : goal.returns-then-is
returns-then-is c = colon-told _ _ _ (sym c.is.ensures ∙ c.if-is.true)

pub returns-in_err-taken : goal.returns-in_err-taken
returns-in_err-taken c =
    let e = err_from_is_err_and c.from_residual.result c.from_residual.ensures.1 in
    let none = c.ok_or.ensures.ok_part ∙ ap (λ (r : Result Taken ℕ). result_ok r) c.in_err-taken.was in
    let at = sym c.in_err-taken.was ∙ c.ok_or.ensures.value ∙ ap (λ (o : Option Taken). ok_or o c.args.t.at) none in
    rw (e.1, e.2) (ap as_read at ∙ none-told _ _ _ (sym c.is.ensures ∙ c.if-is.false) (rw (none, c.from.ensures) at c.take_argument.ensures))

pub returns-in-Some : goal.returns-in-Some
returns-in-Some c =
    let some = c.ok_or.ensures.ok_part ∙ ap (λ (r : Result Taken ℕ). result_ok r) c.in_ok-taken.was in
    some-told _ _ _ (sym c.is.ensures ∙ c.if-is.false) (rw (some, c.from.ensures) at c.take_argument.ensures) (Some _) c.in-Some.is

pub returns-in-None : goal.returns-in-None
returns-in-None c =
    let some = c.ok_or.ensures.ok_part ∙ ap (λ (r : Result Taken ℕ). result_ok r) c.in_ok-taken.was in
    some-told _ _ _ (sym c.is.ensures ∙ c.if-is.false) (rw (some, c.from.ensures) at c.take_argument.ensures) None c.in-None.is
