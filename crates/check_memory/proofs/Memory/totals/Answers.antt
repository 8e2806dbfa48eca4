-- `check_memory::Memory::totals` meets its contract.
use native.Mathlib.Omega.{arith}
use Rattle.check_memory.proofs.Loops.{strings-none, strings-next, all-sums}
use Rattle.check_memory.proofs.Memory.totals.Goals as goal

pub loop-k-init : goal.loop-k-init
loop-k-init c = strings-none c.args.self.now

pub overflow_add-parts : goal.overflow_add-parts
overflow_add-parts c = omega (arith, c.loop-k.invariant.parts.most, c.sums_of-s.ensures.parts_most)

pub overflow_add-chars : goal.overflow_add-chars
overflow_add-chars c = omega (arith, c.loop-k.invariant.chars.most, c.sums_of-s.ensures.chars_most)

pub overflow_add-records : goal.overflow_add-records
overflow_add-records c = omega (arith, c.loop-k.invariant.count.most, c.sums_of-s.ensures.records_most)

pub loop-k-preserved : goal.loop-k-preserved
loop-k-preserved c = strings-next c.loop-k.invariant (omega arith) c.sums_of-s.ensures

pub returns : goal.returns
returns c = all-sums c.loop-k.invariant (omega arith)
