-- `macro_reading::read_first` meets its contract.
use Prim.Native.Nat.{◌-◌}
use lib.ListN.{length}
use Rattle.macros.specs.Elements.{is_end}
use Rattle.macro_reading.specs.Sections.{Firsts}
use Rattle.macro_reading.proofs.read_first.Given as goal

abbrev pub ghost-next_before : goal.ghost-next_before
ghost-next_before a = is_end

abbrev pub invariant-loop-t : goal.invariant-loop-t
invariant-loop-t l = Firsts l.source.text.now l.n l.passed.next l.passed.fault

abbrev pub decreases-loop-t : goal.decreases-loop-t
decreases-loop-t l = length l.source.text.now - l.passed.next
