-- `declaring_switches::judge_switch` meets its contract.
use Rattle.declaring_switches.proofs.Texts.{Entering}
use Rattle.declaring_switches.proofs.judge_switch.Given as goal

abbrev pub invariant-loop-entry : goal.invariant-loop-entry
invariant-loop-entry l = Entering l.text l.fn.d l.initial.table l.texts l.table l.entry-index
