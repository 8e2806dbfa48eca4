-- What is promised of code that writes.
use Rattle.std.specs.Prelude.{◌≡◌, Bool, false, ◌||◌, List, ◌++◌, ℕ, ◌+◌, ◌≤◌, ltb, length, take, Some}
use Rattle.std.specs.Option.{is_none, unwrap_or}
use Rattle.macros.specs.Expansion.{Writing, places_of}
use Rattle.statements.specs.Faults.{lower}
use Rattle.statements.specs.StatementAt.{fault_of}
use Rattle.macro_code.specs.CallFaults.{none_of, both_of}
use Rattle.macro_code.specs.declared.faults.Faults.{Faults}
use Rattle.macro_values.specs.declared.Written.{Written}

-- there is no room, or a call is too deep
abbrev pub is_over : Written → Bool
is_over v = is_none v.count

-- how many bytes are written, or 0
abbrev pub size_of : Written → ℕ
size_of v = unwrap_or v.count 0

-- nothing is written yet
abbrev pub none : Written
none = record { count = Some 0; faults = none_of }

-- the same, where more is at fault
abbrev pub with_faults : Written → Faults → Written
with_faults v more = record { count = v.count; faults = both_of v.faults more }

-- w is written behind what v tells of the row o: then r tells of the row p. Of a row that is over only the faults are known
pub record Wrote (w : Writing) (v r : Written) (o p : List ℕ) : Type 0 where
  pub unknown : r.faults.unknown ≡ lower v.faults.unknown (fault_of (places_of 64 w.faults))
  pub uneven : r.faults.uneven ≡ lower v.faults.uneven (fault_of (places_of 65 w.faults))
  pub over : is_over r ≡ (is_over v || (w.deep || ltb (length o) (size_of v + length w.bytes)))
  pub size : length p ≡ length o
  pub within : is_over r ≡ false → (size_of r ≡ size_of v + length w.bytes) × (take (size_of r) p ≡ take (size_of v) o ++ w.bytes)
  pub most : size_of r ≤ length o
