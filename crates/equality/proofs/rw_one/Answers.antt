-- `equality::rw_one` meets its contract.
use mathlib.Core.List.{[]}
use lib.ListN.{length}
use borrow.Author.Tests.{true-eqb, false-eqb}
use Rattle.std.proofs.lemmas.Result.{err_from_is_err_and}
use Rattle.layout.proofs.ComponentLaws.{whole-components}
use Rattle.packed.specs.Packed.{table_of}
use Rattle.components.proofs.FirstLaws.{leading}
use Rattle.equality.proofs.Meeting.{filled-there}
use Rattle.equality.proofs.Questions.{beside, leading-other}
use Rattle.equality.proofs.Rows.{rw_none, rw-stop, rw-unlike, rw-done}
use Rattle.equality.proofs.rw_one.Goals as goal

pub returns-then-is_empty : goal.returns-then-is_empty
returns-then-is_empty c =
    let x = c.expr_bytes-x.ensures in
    rw_none x.stands c.args.source.removes c.args.source.i c.args.table.cells.now c.args.arg c.put_comparand-held.ensures x (true-eqb (length c.expr_bytes-x.result.now) 0 c.if-is_empty.ensures)

pub returns-in_err-len : goal.returns-in_err-len
returns-in_err-len c =
    let e = err_from_is_err_and c.from_residual.result c.from_residual.ensures.1 in
    let x = c.expr_bytes-x.ensures in
    rw (e.1, e.2) (rw-stop x.stands c.args.source.removes c.args.source.i c.args.table.cells.now c.args.arg c.put_comparand-held.ensures x (false-eqb (length c.expr_bytes-x.result.now) 0 c.if-is_empty.ensures) c.in_err-len.was)

pub shared_ref_as_front-unlike : goal.shared_ref_as_front-unlike
shared_ref_as_front-unlike c = (beside (c.put_comparand-held.ensures []) c.in_ok-len.was).most

pub unlike-requires : goal.unlike-requires
unlike-requires c =
    let argsᶜ = c.args in
    record {
      left = leading c.expr_bytes-x.ensures.whole (false-eqb (length c.expr_bytes-x.result.now) 0 c.if-is_empty.ensures);
      right = λ m. leading-other argsᶜ.table.cells.now argsᶜ.bench.now.state.store argsᶜ.arg c.put_comparand-held.ensures c.in_ok-len.was [] (m (table_of argsᶜ.table.cells.now));
      form = c.requires.other.form;
    }

pub returns-then-unlike : goal.returns-then-unlike
returns-then-unlike c =
    let x = c.expr_bytes-x.ensures in
    rw-unlike x.stands c.args.source.removes c.args.source.i c.args.table.cells.now c.args.arg c.put_comparand-held.ensures x (false-eqb (length c.expr_bytes-x.result.now) 0 c.if-is_empty.ensures) c.in_ok-len.was c.unlike.ensures c.if-unlike.true

pub shared_ref_as_front-settle : goal.shared_ref_as_front-settle
shared_ref_as_front-settle c = (beside (c.put_comparand-held.ensures []) c.in_ok-len.was).most

pub settle-requires : goal.settle-requires
settle-requires c =
    record {
      index = c.requires.source;
      some = filled-there c.expr_bytes-x.ensures (false-eqb (length c.expr_bytes-x.result.now) 0 c.if-is_empty.ensures);
      whole = whole-components (beside (c.put_comparand-held.ensures []) c.in_ok-len.was).encoded;
    }

pub returns : goal.returns
returns c =
    let x = c.expr_bytes-x.ensures in
    rw-done x.stands c.args.source.removes c.args.source.i c.args.table.cells.now c.args.arg c.put_comparand-held.ensures x (false-eqb (length c.expr_bytes-x.result.now) 0 c.if-is_empty.ensures) c.in_ok-len.was c.unlike.ensures c.if-unlike.false c.settle.ensures
