-- `ordering::compare_words` meets its contract.
use Rattle.std.proofs.lemmas.Result.{err_from_is_err_and}
use Rattle.ordering.proofs.Rows.{left_most, right_most, words-stop, words-done}
use Rattle.ordering.proofs.compare_words.Goals as goal

pub returns-in_err-p : goal.returns-in_err-p
returns-in_err-p c =
    let e = err_from_is_err_and c.from_residual.result c.from_residual.ensures.1 in
    let o = c.words_of.ensures in
    rw (e.1, e.2) (words-stop o.stands c.args.table.cells.now c.args.i c.args.arg o.reads c.args.order c.in_err-p.was)

pub shared_ref_as_front-are_in_order : goal.shared_ref_as_front-are_in_order
shared_ref_as_front-are_in_order c = let o = c.words_of.ensures in left_most o.stands c.args.table.cells.now c.args.i c.args.arg o.reads c.in_ok-p.was

pub shared_ref_as_front-are_in_order-2 : goal.shared_ref_as_front-are_in_order-2
shared_ref_as_front-are_in_order-2 c = let o = c.words_of.ensures in right_most o.stands c.args.table.cells.now c.args.i c.args.arg o.reads c.in_ok-p.was

pub returns : goal.returns
returns c =
    let o = c.words_of.ensures in
    words-done o.stands c.args.table.cells.now c.args.i c.args.arg o.reads c.args.order c.in_ok-p.was c.are_in_order-holds.ensures c.minus_unless.ensures
