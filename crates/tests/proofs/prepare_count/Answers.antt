-- `tests::prepare_count` meets its contract.
use mathlib.Core.Path.{sym, ap, ◌∙◌}
use Rattle.std.proofs.lemmas.Result.{err_from_is_err_and, IfOk-at_ok}
use Rattle.instructions.specs.Questions.{told_by}
use Rattle.instructions.proofs.Fronts.{there, leading-kind}
use Rattle.tests.proofs.Values.{count-refused, count-told}
use Rattle.tests.proofs.prepare_count.Goals as goal

pub returns-in_err-x : goal.returns-in_err-x
returns-in_err-x c =
    let e = err_from_is_err_and c.from_residual.result c.from_residual.ensures.1 in
    λ g. rw (e.1, e.2) (count-refused _ g c.args.i (sym (ap told_by c.in_err-x.was) ∙ c.front_of.ensures.told))

pub number_of-requires : goal.number_of-requires
number_of-requires c = leading-kind (IfOk-at_ok _ c.in_ok-x.was c.front_of.ensures.is)

pub returns : goal.returns
returns c =
    let f = IfOk-at_ok _ c.in_ok-x.was c.front_of.ensures.is in
    count-told f.lent (there f) f.kind_is c.number_of.ensures c.prepare_number.ensures
