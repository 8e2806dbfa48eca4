-- `class_running::run_pupils` meets its contract.
use Rattle.class_running.proofs.Sitting.{sit-begin, few, a-budget, seated, three-cells, end-within, sit-next, sit-end}
use mathlib.Core.Path.{refl}
use native.Mathlib.Omega.{arith}
use Rattle.class_running.proofs.run_pupils.Goals as goal

pub loop-k-init : goal.loop-k-init
loop-k-init c = sit-begin c.requires

pub overflow_add-end : goal.overflow_add-end
overflow_add-end c = omega (arith, end-within c.requires c.loop-k.invariant c.loop-k-test.true refl)

pub slice_bounds-run_pupil-end : goal.slice_bounds-run_pupil-end
slice_bounds-run_pupil-end c = end-within c.requires c.loop-k.invariant c.loop-k-test.true refl

pub offset_bounds-budgets-k : goal.offset_bounds-budgets-k
offset_bounds-budgets-k c = omega (arith, few c.requires c.loop-k.invariant c.loop-k-test.true)

pub bounds-budgets-k : goal.bounds-budgets-k
bounds-budgets-k c = a-budget c.requires c.loop-k.invariant c.loop-k-test.true

pub overflow_mul-k : goal.overflow_mul-k
overflow_mul-k c = omega (arith, few c.requires c.loop-k.invariant c.loop-k-test.true)

pub run_pupil-told-requires : goal.run_pupil-told-requires
run_pupil-told-requires c = seated c.requires c.loop-k.invariant c.loop-k-test.true

pub overflow_mul-k-in-loop-k : goal.overflow_mul-k-in-loop-k
overflow_mul-k-in-loop-k c = omega (arith, few c.requires c.loop-k.invariant c.loop-k-test.true)

pub write_result-requires : goal.write_result-requires
write_result-requires c = three-cells c.requires c.loop-k.invariant c.loop-k-test.true

pub loop-k-preserved : goal.loop-k-preserved
loop-k-preserved c = sit-next c.requires c.loop-k.invariant c.loop-k-test.true refl c.run_pupil-told.ensures c.write_result.ensures (omega arith) (omega arith) (omega arith)

pub returns : goal.returns
returns c = sit-end c.requires c.loop-k.invariant c.loop-k-test.false
