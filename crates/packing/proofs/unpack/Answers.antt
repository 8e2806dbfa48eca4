-- `packing::unpack` meets its contract. The invariant: the first j strings are laid out.
use lib.ListN.{length-take, length-drop}
use Rattle.packing.proofs.Reading.{turn_numbers, unpacking_more, unpacked, packed-long}
use native.Mathlib.Omega.{arith}
use Rattle.packing.proofs.unpack.Goals as goal

pub two_at-n-requires : goal.two_at-n-requires
two_at-n-requires c = omega (arith, packed-long c.requires.packed, c.loop-j-test.true)

pub overflow_add-to : goal.overflow_add-to
overflow_add-to c = omega (arith, turn_numbers c.requires c.loop-j.invariant c.loop-j-test.true c.two_at-n.ensures)

pub slice_bounds-lay-end : goal.slice_bounds-lay-end
slice_bounds-lay-end c = omega (arith, turn_numbers c.requires c.loop-j.invariant c.loop-j-test.true c.two_at-n.ensures)

pub lay-requires : goal.lay-requires
lay-requires c =
    let turn = turn_numbers c.requires c.loop-j.invariant c.loop-j-test.true c.two_at-n.ensures in
    simp (length-take, length-drop) (omega (arith, turn, c.loop-j-test.true))

pub overflow_add-at : goal.overflow_add-at
overflow_add-at c = omega (arith, turn_numbers c.requires c.loop-j.invariant c.loop-j-test.true c.two_at-n.ensures)

pub overflow_add-from : goal.overflow_add-from
overflow_add-from c = omega (arith, turn_numbers c.requires c.loop-j.invariant c.loop-j-test.true c.two_at-n.ensures)

pub loop-j-preserved : goal.loop-j-preserved
loop-j-preserved c = unpacking_more c.requires c.loop-j.invariant c.loop-j-test.true c.two_at-n.ensures c.lay.ensures (omega arith)

pub returns : goal.returns
returns c = unpacked c.requires c.loop-j.invariant c.loop-j-test.false
