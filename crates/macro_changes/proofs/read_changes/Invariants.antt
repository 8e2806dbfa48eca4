-- `macro_changes::read_changes` meets its contract.
use Prim.Native.Nat.{◌-◌}
use lib.ListN.{length}
use Rattle.macro_changes.specs.Changing.{Stepped}
use Rattle.macro_changes.proofs.read_changes.Given as goal

abbrev pub invariant-loop-r : goal.invariant-loop-r
invariant-loop-r l = Stepped l.source.text.now l.initial.code l.code l.x l.n l.u l.passed.next l.used l.count l.passed.fault

abbrev pub decreases-loop-r : goal.decreases-loop-r
decreases-loop-r l = length l.source.text.now - l.passed.next
