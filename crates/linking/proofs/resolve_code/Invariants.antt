-- `linking::resolve_code` meets its contract.
use Rattle.writing.specs.Writing.{Changes}
use Rattle.linking.specs.Resolving.{code_resolved}
use Rattle.linking.proofs.resolve_code.Given as goal

abbrev pub invariant-loop-k : goal.invariant-loop-k
invariant-loop-k l = Changes (code_resolved l.text l.sw l.k) l.initial.table l.table
