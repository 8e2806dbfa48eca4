-- `input_equality::rw_input` meets its contract.
use mathlib.Core.List.{[]}
use native.Mathlib.Omega.{arith}
use lib.ListN.{length-take}
use Rattle.std.proofs.lemmas.Result.{err_from_is_err_and}
use Rattle.layout.proofs.ComponentLaws.{whole-components}
use Rattle.packed.specs.Packed.{table_of}
use Rattle.readings.proofs.Rows.{unread-is}
use Rattle.equality.proofs.Questions.{beside, leading-other}
use Rattle.input_equality.proofs.Rows.{input-stop, input-unlike, input-done}
use Rattle.input_equality.proofs.rw_input.Goals as goal

pub returns-in_err-len : goal.returns-in_err-len
returns-in_err-len c =
    let e = err_from_is_err_and c.from_residual.result c.from_residual.ensures.1 in
    let t = c.args.task in
    rw (e.1, e.2) (input-stop c.stands.ensures t.first.now t.second.now c.args.i t.table.cells.now c.args.arg c.put_comparand.ensures c.in_err-len.was)

pub shared_ref_as_front-not_word : goal.shared_ref_as_front-not_word
shared_ref_as_front-not_word c = (beside (c.put_comparand.ensures []) c.in_ok-len.was).most

pub not_word-requires : goal.not_word-requires
not_word-requires c =
    let t = c.args.task.table.cells.now in
    record {
      front = λ m. leading-other t c.args.bench.now.state.store c.args.arg c.put_comparand.ensures c.in_ok-len.was [] (m (table_of t));
      form = c.requires.other.form;
    }

pub returns-then-not_word : goal.returns-then-not_word
returns-then-not_word c =
    let t = c.args.task in
    input-unlike c.stands.ensures t.first.now t.second.now c.args.i t.table.cells.now c.args.arg c.put_comparand.ensures c.in_ok-len.was c.not_word.ensures c.if-not_word.true

pub shared_ref_as_front-compare : goal.shared_ref_as_front-compare
shared_ref_as_front-compare c = (beside (c.put_comparand.ensures []) c.in_ok-len.was).most

pub compare-requires : goal.compare-requires
compare-requires c =
    let b = beside (c.put_comparand.ensures []) c.in_ok-len.was in
    let t = c.args.task in
    record {
      unread = unread-is t.first.now t.second.now c.args.i c.input.ensures c.requires.unread;
      whole = whole-components b.encoded;
      room = simp length-take (omega (arith, b.most));
    }

pub returns : goal.returns
returns c =
    let t = c.args.task in
    input-done c.stands.ensures t.first.now t.second.now c.args.i t.table.cells.now c.args.arg c.put_comparand.ensures c.in_ok-len.was c.not_word.ensures c.if-not_word.false c.requires.unread.index c.input.ensures c.compare.ensures
