-- `names::first_repeated` meets its contract.
use Rattle.std.proofs.Common.{◌≤◌, length}
use Rattle.names.specs.Names.{names_of}
use Rattle.names.proofs.Lowest.{Repeating}
use Rattle.names.proofs.first_repeated.Given as goal

abbrev pub invariant-loop-k : goal.invariant-loop-k
invariant-loop-k l = Repeating l.text (names_of l.text l.before) l.names l.k l.fault × (l.k ≤ length l.names)
