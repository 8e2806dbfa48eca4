-- `declaring_switches::write_switch` meets its contract.
use Rattle.declaring_switches.proofs.Entries.{Filling}
use Rattle.declaring_switches.proofs.write_switch.Given as goal

abbrev pub invariant-loop-entry : goal.invariant-loop-entry
invariant-loop-entry l = Filling l.text l.fn.d l.initial.table l.table l.entry-index
