-- `macro_reading::read_definitions` meets its contract. The invariant: the macros so far are in cells, and the others follow from place i on.
use Prim.Native.Nat.{◌-◌}
use lib.ListN.{length}
use Rattle.macro_reading.specs.Definitions.{Listing}
use Rattle.macro_reading.proofs.read_definitions.Given as goal

abbrev pub invariant-loop-r : goal.invariant-loop-r
invariant-loop-r l = Listing l.source.text.now l.initial.code l.initial.firsts l.code l.firsts l.n l.passed.next l.q l.k l.defined l.passed.fault

abbrev pub decreases-loop-r : goal.decreases-loop-r
decreases-loop-r l = length l.source.text.now - l.passed.next
