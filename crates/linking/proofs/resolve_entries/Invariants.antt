-- `linking::resolve_entries` meets its contract.
use Rattle.writing.specs.Writing.{Changes}
use Rattle.linking.specs.Resolving.{entries_resolved}
use Rattle.linking.proofs.resolve_entries.Given as goal

abbrev pub invariant-loop-k : goal.invariant-loop-k
invariant-loop-k l = Changes (entries_resolved l.text l.en l.k) l.initial.table l.table
