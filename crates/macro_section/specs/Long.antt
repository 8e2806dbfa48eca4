-- Question 66: the places of calls that are too deep, and those of the bytes that have no room.
use Rattle.std.specs.Prelude.{◌≡◌, Bool, true, false, cond, List, [], ◌∷◌, ◌++◌, ℕ, ◌≤◌, length, drop}
use Rattle.lists.specs.Lists.{each}
use Rattle.macro_code.specs.Code.{macros_in, changes_in}
use Rattle.macro_values.specs.Wrote.{is_over, size_of}
use Rattle.macro_values.specs.declared.Written.{Written}
use Rattle.macros.specs.Pieces.{Change, pieces_from}
use Rattle.macros.specs.Prepared.{deep_places}
use Rattle.statements.specs.StatementAt.{fault_of}
use Rattle.statements.specs.Faults.{Fault}
use Rattle.std.specs.Prelude.{None, Some}

-- changes that stand in order
abbrev pub Steady : ℕ → List Change → Type 0
Steady place [] = Unit {0}
Steady place (d ∷ ds) = (place ≤ d.start) × (d.start ≤ d.stop) × Steady d.stop ds

-- the place at which something is over first
abbrev pub over_at : Fault → Bool → Bool → ℕ → Fault
over_at long before after place = cond before long (cond after (Some place) long)

abbrev pub rest_deeps : List ℕ → List ℕ → List ℕ → ℕ → ℕ → ℕ → ℕ → ℕ → List ℕ
rest_deeps s c f n place stop i k = each (deep_places (macros_in s c f n)) (pieces_from s place stop (changes_in s c i k))

-- what is over of what comes from the places `from`, with room for so many, and of the calls passed: the first place is the lowest
pub record Long (room : ℕ) (deeps from : List ℕ) (w : Written) (long : Fault) (place : ℕ) : Type 0 where
  pub long_is : long ≡ fault_of (deeps ++ drop room from)
  pub count : is_over w ≡ false → size_of w ≡ length from
  pub fine : is_over w ≡ false → long ≡ None
  pub bad : is_over w ≡ true → (p : ℕ) × (long ≡ Some p) × (p ≤ place)

-- the same of the section up to a change, with the calls that are too deep in all of it
pub record Overs (s c f : List ℕ) (n stop room : ℕ) (all from : List ℕ) (w : Written) (long : Fault) (place i k : ℕ) : Type 0 where
  pub deeps : List ℕ
  pub deeps_is : all ≡ deeps ++ rest_deeps s c f n place stop i k
  pub told : Long room deeps from w long place
  pub steady : Steady place (changes_in s c i k)
