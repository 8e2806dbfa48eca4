-- `loading::read_statements` meets its contract.
use lib.ListN.{length}
use Rattle.loading.proofs.Walking.{Walks, left_of}
use Rattle.loading.proofs.read_statements.Given as goal

abbrev pub invariant-loop-next : goal.invariant-loop-next
invariant-loop-next l = Walks l.text l.lines l.initial.table l.next l.p l.names l.table l.switches l.entries

abbrev pub decreases-loop-next : goal.decreases-loop-next
decreases-loop-next l = left_of (length l.text) l.next
