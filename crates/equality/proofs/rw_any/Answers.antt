-- `equality::rw_any` meets its contract.
use mathlib.Core.List.{[]}
use Rattle.std.proofs.lemmas.Result.{err_from_is_err_and}
use Rattle.layout.proofs.ComponentLaws.{whole-components}
use Rattle.equality.proofs.Questions.{beside}
use Rattle.equality.proofs.Anys.{any-stop, any-done}
use Rattle.equality.proofs.rw_any.Goals as goal

pub returns-in_err-len : goal.returns-in_err-len
returns-in_err-len c =
    let e = err_from_is_err_and c.from_residual.result c.from_residual.ensures.1 in
    rw (e.1, e.2) (any-stop c.stands.ensures c.args.i c.args.table.cells.now c.args.arg c.put_comparand.ensures c.in_err-len.was)

pub shared_ref_as_front-test_of : goal.shared_ref_as_front-test_of
shared_ref_as_front-test_of c = (beside (c.put_comparand.ensures []) c.in_ok-len.was).most

pub count-t-requires : goal.count-t-requires
count-t-requires c =
    record {
      whole = c.expr_bytes-x.ensures.whole;
      fitting = c.test_of.ensures.fitting (whole-components (beside (c.put_comparand.ensures []) c.in_ok-len.was).encoded);
    }

pub returns : goal.returns
returns c =
    any-done c.stands.ensures c.args.i c.args.table.cells.now c.args.arg c.put_comparand.ensures c.in_ok-len.was c.expr_bytes-x.ensures (rw c.test_of.ensures.parts at c.count-t.ensures) c.minus_unless.ensures
