-- `Draft::entries_fault` meets its contract.
use Rattle.linking.proofs.Faults.{EntriesGoing}
use Rattle.linking.proofs.Draft.entries_fault.Given as goal

abbrev pub invariant-loop-mark : goal.invariant-loop-mark
invariant-loop-mark l = EntriesGoing l.fn.self.text.now l.fn.self.names.now l.fn.self.table.cells.now l.en l.initial.g l.mark-index l.g
