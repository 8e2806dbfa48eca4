-- `macro_changes::read_given` meets its contract.
use Prim.Native.Nat.{◌-◌}
use lib.ListN.{length}
use Rattle.std.specs.Prelude.{is_some}
use Rattle.macro_changes.specs.Changing.{ends_given, Gives}
use Rattle.macro_changes.proofs.read_given.Given as goal

abbrev pub ghost-next_before : goal.ghost-next_before
ghost-next_before a = ends_given (is_some a.ends.0.now)

abbrev pub invariant-loop-t : goal.invariant-loop-t
invariant-loop-t l = Gives l.source.text.now l.initial.code l.code l.x l.n l.u l.passed.next l.k l.passed.fault

abbrev pub decreases-loop-t : goal.decreases-loop-t
decreases-loop-t l = length l.source.text.now - l.passed.next
