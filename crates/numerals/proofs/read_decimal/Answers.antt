-- `numerals::read_decimal` meets its contract.
use mathlib.Core.Path.{◌∙◌}
use Rattle.std.proofs.lemmas.Result.{err_from_is_err_and}
use Rattle.numerals.proofs.Amounts.{reads_none, reads-minus, reads-plus, reads_plain, none_err}
use Rattle.numerals.proofs.read_decimal.Goals as goal

pub returns-in_err-sign : goal.returns-in_err-sign
returns-in_err-sign c =
    let o = c.ok_or.ensures in
    let empty = rw (o.ok_part, c.in_err-sign.was) at c.split_first.ensures.cases in
    let e = err_from_is_err_and c.from_residual.result c.from_residual.ensures.1 in
    let none = rw c.in_err-sign.was at o.ok_part in
    let f = none_err o.value none c.in_err-sign.was in
    e.1 ∙ rw (e.2, f) (reads_none c.args.w.now empty)

pub returns-then-sign-eq45 : goal.returns-then-sign-eq45
returns-then-sign-eq45 c =
    let parts = rw (c.ok_or.ensures.ok_part, c.in_ok-sign.was) at c.split_first.ensures.cases in
    c.coded.ensures ∙ reads-minus c.args.w.now c.in_ok-sign.sign.now c.in_ok-sign.digits.now parts.0 c.if-sign-eq45.true

pub returns-then-sign-eq43 : goal.returns-then-sign-eq43
returns-then-sign-eq43 c =
    let parts = rw (c.ok_or.ensures.ok_part, c.in_ok-sign.was) at c.split_first.ensures.cases in
    c.coded-then-sign-eq43.ensures ∙ reads-plus c.args.w.now c.in_ok-sign.sign.now c.in_ok-sign.digits.now parts.0 c.if-sign-eq43.true

pub returns : goal.returns
returns c =
    let parts = rw (c.ok_or.ensures.ok_part, c.in_ok-sign.was) at c.split_first.ensures.cases in
    c.coded-2.ensures ∙ reads_plain c.args.w.now c.in_ok-sign.sign.now c.in_ok-sign.digits.now parts.0 c.if-sign-eq45.false c.if-sign-eq43.false
