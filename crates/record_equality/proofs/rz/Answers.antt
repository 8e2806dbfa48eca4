-- `record_equality::rz` meets its contract.
use mathlib.Core.List.{[]}
use lib.ListN.{length}
use borrow.Author.Tests.{true-eqb, false-eqb}
use Rattle.std.proofs.lemmas.Result.{err_from_is_err_and}
use Rattle.layout.proofs.ComponentLaws.{whole-components}
use Rattle.packed.specs.Packed.{table_of}
use Rattle.components.proofs.FirstLaws.{leading}
use Rattle.equality.proofs.Questions.{beside, leading-other}
use Rattle.record_equality.proofs.Rows.{rz-none, rz-stop, rz-unlike, rz-done}
use Rattle.record_equality.proofs.rz.Goals as goal

pub returns-then-is_empty : goal.returns-then-is_empty
returns-then-is_empty c = rz-none c.stands.ensures c.args.i c.args.table.cells.now c.args.arg c.put_comparand-held.ensures c.next_record-x.ensures (true-eqb (length c.next_record-x.result.now) 0 c.if-is_empty.ensures)

pub returns-in_err-len : goal.returns-in_err-len
returns-in_err-len c =
    let e = err_from_is_err_and c.from_residual.result c.from_residual.ensures.1 in
    rw (e.1, e.2) (rz-stop c.stands.ensures c.args.i c.args.table.cells.now c.args.arg c.put_comparand-held.ensures c.next_record-x.ensures (false-eqb (length c.next_record-x.result.now) 0 c.if-is_empty.ensures) c.in_err-len.was)

pub shared_ref_as_front-unlike : goal.shared_ref_as_front-unlike
shared_ref_as_front-unlike c = (beside (c.put_comparand-held.ensures []) c.in_ok-len.was).most

pub unlike-requires : goal.unlike-requires
unlike-requires c =
    let argsᶜ = c.args in
    record {
      left = leading c.next_record-x.ensures.whole (false-eqb (length c.next_record-x.result.now) 0 c.if-is_empty.ensures);
      right = λ m. leading-other argsᶜ.table.cells.now argsᶜ.bench.now.state.store argsᶜ.arg c.put_comparand-held.ensures c.in_ok-len.was [] (m (table_of argsᶜ.table.cells.now));
      form = c.requires.other.form;
    }

pub returns-then-unlike : goal.returns-then-unlike
returns-then-unlike c =
    rz-unlike c.stands.ensures c.args.i c.args.table.cells.now c.args.arg c.put_comparand-held.ensures c.next_record-x.ensures (false-eqb (length c.next_record-x.result.now) 0 c.if-is_empty.ensures) c.in_ok-len.was c.unlike.ensures c.if-unlike.true

pub shared_ref_as_front-meets : goal.shared_ref_as_front-meets
shared_ref_as_front-meets c = (beside (c.put_comparand-held.ensures []) c.in_ok-len.was).most

pub meets-holds-requires : goal.meets-holds-requires
meets-holds-requires c =
    record {
      left = c.next_record-x.ensures.whole;
      right = whole-components (beside (c.put_comparand-held.ensures []) c.in_ok-len.was).encoded;
      form = c.requires.other.form;
    }

pub returns : goal.returns
returns c =
    rz-done c.stands.ensures c.args.i c.args.table.cells.now c.args.arg c.put_comparand-held.ensures c.next_record-x.ensures (false-eqb (length c.next_record-x.result.now) 0 c.if-is_empty.ensures) c.in_ok-len.was c.unlike.ensures c.if-unlike.false
    c.requires.other.form c.meets-holds.ensures c.minus_unless.ensures
