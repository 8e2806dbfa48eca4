-- Calls that change nothing any more, in slots, each with a number of a call, the levels left around it, or 0, the cell of its macro, and the cells of
-- the calls around it and of the call itself.
use Rattle.std.specs.Prelude.{◌≡◌, false, List, [], map, ℕ, ◌+◌, ◌-◌, ◌≤◌, ◌<◌, get_or}
use Rattle.macros.specs.Expansion.{Writing, places_of, filled_in, expand, levels}
use Rattle.macro_code.specs.Code.{call_in, body_in, macros_in, arguments_in}
use Rattle.macro_code.specs.Places.{half}
use Rattle.statements.specs.Faults.{lower}
use Rattle.statements.specs.StatementAt.{fault_of}
use Rattle.macro_values.specs.declared.Around.{Around}
use Rattle.macro_values.specs.declared.Written.{Written}
pub use Rattle.macro_values.specs.Values.{reach}
use Rattle.macro_values.specs.Wrote.{is_over}
use Rattle.macro_memory.specs.declared.Entered.{Entered}
use Rattle.macro_memory.specs.declared.Memory.{Memory}
use Rattle.macro_memory.specs.declared.Slot.{Slot}

-- the slot at an index, and a free one past the end
abbrev pub free_slot : Slot
free_slot = record { print = 0; left = 0; body = 0; calls = [] }

abbrev pub slot_at : List Slot → ℕ → Slot
slot_at slots k = get_or slots k free_slot

-- written again behind v, it changes nothing
pub record Absorbed (x : Writing) (v : Written) : Type 0 where
  pub unknown : lower v.faults.unknown (fault_of (places_of 64 x.faults)) ≡ v.faults.unknown
  pub uneven : lower v.faults.uneven (fault_of (places_of 65 x.faults)) ≡ v.faults.uneven
  pub shallow : is_over v ≡ false → x.deep ≡ false
  pub empty : is_over v ≡ false → x.bytes ≡ []

-- the body of a call, which is entered, with so many levels left around it
abbrev pub entered_writes : List ℕ → List ℕ → List ℕ → ℕ → List ℕ → ℕ → ℕ → ℕ → Writing
entered_writes s c f n calls left i m =
    expand (macros_in s c f n) (left - 1) (map (filled_in (arguments_in s c calls (levels - left))) (call_in s c i).args) (body_in s c m)

-- the same of the innermost of the nested calls
abbrev pub innermost_writes : List ℕ → List ℕ → List ℕ → ℕ → List ℕ → ℕ → ℕ → Writing
innermost_writes s c f n calls left m = expand (macros_in s c f n) (left - 1) (arguments_in s c calls (levels - (left - 1))) (body_in s c m)

-- of the call in a slot
abbrev pub slot_writes : List ℕ → List ℕ → List ℕ → ℕ → Slot → Writing
slot_writes s c f n x = innermost_writes s c f n x.calls x.left x.body

-- no call that is remembered would change anything
pub record Remembers (s c f : List ℕ) (n : ℕ) (slots : List Slot) (v : Written) : Type 0 where
  pub absorbed : (k : ℕ) → ((slot_at slots k).left ≡ 0 → ⊥) → Absorbed (slot_writes s c f n (slot_at slots k)) v

-- a call that can be looked up
pub record Lookable (at : Entered) (here : Around) : Type 0 where
  pub near : at.cell < reach
  pub some : 1 ≤ at.left
  pub levels_are : at.left + here.depth ≡ levels
  pub body : at.body < half

-- the arguments of two calls, within as many nested calls, are the same
abbrev pub Alike : List ℕ → List ℕ → List ℕ → List ℕ → ℕ → ℕ → ℕ → Type 0
Alike s c calls others depth i j =
    map (filled_in (arguments_in s c calls depth)) (call_in s c i).args ≡ map (filled_in (arguments_in s c others depth)) (call_in s c j).args

-- the call in a slot writes what a call writes
pub record Like (s c calls : List ℕ) (at : Entered) (x : Slot) : Type 0 where
  pub some : x.left ≡ 0 → ⊥
  pub writes_are : (f : List ℕ) (n : ℕ) → slot_writes s c f n x ≡ entered_writes s c f n calls at.left at.cell at.body

-- a call that is found among those that are remembered
pub record Found (s c : List ℕ) (slots : List Slot) (calls : List ℕ) (left i m : ℕ) : Type 0 where
  pub changes_nothing : (f : List ℕ) (n : ℕ) (v : Written) → Remembers s c f n slots v → Absorbed (entered_writes s c f n calls left i m) v

-- the innermost of the nested calls is remembered
pub record Stored (before after : Memory) (left m : ℕ) : Type 0 where
  pub nested : after.calls ≡ before.calls
  pub remembers : (s c f : List ℕ) (n : ℕ) (v : Written) → Remembers s c f n before.slots v → Absorbed (innermost_writes s c f n before.calls left m) v
      → Remembers s c f n after.slots v
