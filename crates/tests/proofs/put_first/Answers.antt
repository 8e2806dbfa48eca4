-- `tests::put_first` meets its contract.
use native.Mathlib.Omega.{arith}
use lib.ListN.{length, length-take}
use borrow.Author.Tests.{true-eqb, false-eqb}
use Rattle.tests.proofs.Values.{first-none, front_fits, first-put}
use Rattle.tests.proofs.put_first.Goals as goal

pub returns-then-is_empty : goal.returns-then-is_empty
returns-then-is_empty c = first-none c.expr_bytes-x.ensures (true-eqb (length c.expr_bytes-x.result.now) 0 c.if-is_empty.ensures)

pub slice_bounds-put-end : goal.slice_bounds-put-end
slice_bounds-put-end c =
    let some = false-eqb (length c.expr_bytes-x.result.now) 0 c.if-is_empty.ensures in
    simp length-take (omega (arith, front_fits c.expr_bytes-x.ensures.whole some c.size_by-n.ensures))

pub returns : goal.returns
returns c =
    let some = false-eqb (length c.expr_bytes-x.result.now) 0 c.if-is_empty.ensures in
    first-put c.expr_bytes-x.ensures some c.size_by-n.ensures c.args.given.now c.put.ensures c.requires.room
