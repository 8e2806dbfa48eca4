-- `converting::first_numeral` meets its contract.
use mathlib.Core.Path.{sym, ap, ◌∙◌}
use Rattle.std.proofs.lemmas.Result.{err_from_is_err_and, IfOk-at_ok}
use Rattle.instructions.specs.Questions.{told_by}
use Rattle.instructions.proofs.Fronts.{leading}
use Rattle.converting.proofs.Numerals.{front-refused, wrong-told, over-told, code-told}
use Rattle.converting.proofs.first_numeral.Goals as goal

pub returns-in_err-x : goal.returns-in_err-x
returns-in_err-x c =
    let e = err_from_is_err_and c.from_residual.result c.from_residual.ensures.1 in
    let f = c.front_of.ensures in
    rw (e.1, e.2) record { reads = front-refused _ (sym (ap told_by c.in_err-x.was) ∙ f.told); stands = f.stands }

pub chars_of-w-requires : goal.chars_of-w-requires
chars_of-w-requires c = leading (IfOk-at_ok _ c.in_ok-x.was c.front_of.ensures.is)

pub returns-in-Err-NotNumeral-clause-reads : goal.returns-in-Err-NotNumeral-clause-reads
returns-in-Err-NotNumeral-clause-reads c =
    wrong-told (IfOk-at_ok _ c.in_ok-x.was c.front_of.ensures.is) c.chars_of-w.ensures (sym c.read_decimal.ensures ∙ rw c.in-Err-NotNumeral.field-0-is at c.in-Err-NotNumeral.is)

pub returns-in-Err-OutOfRange-clause-reads : goal.returns-in-Err-OutOfRange-clause-reads
returns-in-Err-OutOfRange-clause-reads c =
    over-told (IfOk-at_ok _ c.in_ok-x.was c.front_of.ensures.is) c.chars_of-w.ensures (sym c.read_decimal.ensures ∙ rw c.in-Err-OutOfRange.field-0-is at c.in-Err-OutOfRange.is)

pub returns-in-Ok-clause-reads : goal.returns-in-Ok-clause-reads
returns-in-Ok-clause-reads c = code-told (IfOk-at_ok _ c.in_ok-x.was c.front_of.ensures.is) c.chars_of-w.ensures (sym c.read_decimal.ensures ∙ c.in-Ok.is)
