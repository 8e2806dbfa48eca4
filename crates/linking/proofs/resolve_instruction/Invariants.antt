-- `linking::resolve_instruction` meets its contract.
use Rattle.writing.specs.Writing.{Changes}
use Rattle.linking.specs.Resolving.{all_changed, argument_resolved}
use Rattle.linking.proofs.resolve_instruction.Given as goal

abbrev pub invariant-loop-j : goal.invariant-loop-j
invariant-loop-j l = Changes (all_changed (argument_resolved l.text l.sw l.k) l.j) l.initial.table l.table
