-- `class_running::run_pupils` meets its contract.
use Rattle.class_running.proofs.Sitting.{Sitting}
use lib.ListN.{length}
use Rattle.class_running.proofs.run_pupils.Given as goal

abbrev pub invariant-loop-k : goal.invariant-loop-k
invariant-loop-k l = Sitting l.table.cells.now l.inputs l.lengths l.budgets l.initial.results l.initial.out (length l.initial.state) l.results l.out (length l.state) l.k l.from
