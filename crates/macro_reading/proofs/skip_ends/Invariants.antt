-- `macro_reading::skip_ends` meets its contract.
use mathlib.Core.Path.{◌≡◌}
use Prim.Native.Nat.{◌≤◌, ◌-◌}
use lib.ListN.{length}
use Rattle.macros.specs.Macros.{from_statement}
use Rattle.macro_elements.specs.ElementAt.{elements_from}
use Rattle.macro_reading.proofs.skip_ends.Given as goal

abbrev pub invariant-loop-t : goal.invariant-loop-t
invariant-loop-t l = (l.n ≤ l.i) × (l.i ≤ length l.source.text.now) × (from_statement (elements_from l.source.text.now l.i) ≡ from_statement (elements_from l.source.text.now l.n))

abbrev pub decreases-loop-t : goal.decreases-loop-t
decreases-loop-t l = length l.source.text.now - l.i
