-- `running::run_steps` meets its contract.
use Rattle.running.proofs.Loop.{Going}
use Rattle.running.proofs.run_steps.Given as goal

abbrev pub invariant-loop-count : goal.invariant-loop-count
invariant-loop-count l = Going l.task.table.cells.now l.task.first.now l.task.second.now l.initial.bench.state l.bench.state l.count l.budget
