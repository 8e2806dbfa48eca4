-- `viewing::string_at` meets its contract.
use Rattle.viewing.proofs.Strings.{passing-none, turn, passing-more, last_turn, string-told}
use Rattle.packing.proofs.Reading.{packed-long}
use native.Mathlib.Omega.{arith}
use Rattle.viewing.proofs.string_at.Goals as goal

pub loop-j-init : goal.loop-j-init
loop-j-init c = passing-none c.args.strings.now c.args.i

pub two_at-from-requires : goal.two_at-from-requires
two_at-from-requires c = omega (arith, packed-long c.requires.packed, c.requires.below, c.loop-j-test.true)

pub overflow_add-from : goal.overflow_add-from
overflow_add-from c = omega (arith, turn c.requires c.loop-j.invariant c.two_at-from.ensures (omega (arith, c.requires.below, c.loop-j-test.true)))

pub loop-j-preserved : goal.loop-j-preserved
loop-j-preserved c = passing-more c.requires c.loop-j.invariant c.two_at-from.ensures c.loop-j-test.true

pub two_at-requires : goal.two_at-requires
two_at-requires c = omega (arith, packed-long c.requires.packed, c.requires.below)

pub overflow_add-result : goal.overflow_add-result
overflow_add-result c = omega (arith, last_turn c.requires c.loop-j.invariant c.loop-j-test.false c.two_at.ensures)

pub slice_bounds-result-end : goal.slice_bounds-result-end
slice_bounds-result-end c = omega (arith, last_turn c.requires c.loop-j.invariant c.loop-j-test.false c.two_at.ensures)

pub returns : goal.returns
returns c = string-told c.requires c.loop-j.invariant c.loop-j-test.false c.two_at.ensures
