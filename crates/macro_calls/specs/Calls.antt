-- Calls by a typed name in the cells c of a text s, and what the functions on them ask and promise.
use Rattle.std.specs.Prelude.{Option, ◌≡◌, Bool, true, ◌&&◌, List, ◌++◌, ℕ, ◌+◌, ◌≤◌, ◌<◌, eqb, length, get_or, drop, is_some, IfSome}
use Rattle.lists.specs.Lists.{each, bytes_equal}
use Rattle.macros.specs.Expansion as met
use Rattle.macros.specs.Expansion.{called_by, argument_faults, places_of}
use Rattle.macros.specs.Macros.{Macro}
use Rattle.macros.specs.Pieces.{Change}
use Rattle.macros.specs.Prepared.{piece_faults}
use Rattle.macro_code.specs.Code.{high, is_call, call_in, body_in, macro_in, macros_in}
use Rattle.macro_code.specs.Known.{Only}
use Rattle.macro_code.specs.Places.{kind_cell, name_cell, typed_kind}
use Rattle.statements.specs.StatementAt.{fault_of}
use Rattle.statements.specs.Faults.{Fault}
use Rattle.macro_code.specs.declared.faults.Faults.{Faults}
pub use Rattle.macro_code.specs.CallFaults.{none_of, both_of}

-- the macros of a name, from a number on
abbrev pub named_from : List ℕ → List ℕ → List ℕ → ℕ → List ℕ → ℕ → List Macro
named_from s c firsts n w k = called_by (drop k (macros_in s c firsts n)) w

-- the first of them
pub record Next (s c firsts : List ℕ) (n : ℕ) (w : List ℕ) (from r : ℕ) : Type 0 where
  pub most : r ≤ n
  pub above : from ≤ r
  pub same : named_from s c firsts n w r ≡ named_from s c firsts n w from
  pub here : r < n → bytes_equal w (macro_in s c (get_or firsts r 0)).name ≡ true

-- the number of the only one of a name
pub record Finds (s c firsts : List ℕ) (n : ℕ) (w : List ℕ) (r : Option ℕ) : Type 0 where
  pub once_is : is_some r ≡ eqb (length (called_by (macros_in s c firsts n) w)) 1
  pub only : IfSome r (λ k. Only s c firsts n w k)

-- a change that is a call by a typed name
abbrev pub is_typed_call : List ℕ → ℕ → Bool
is_typed_call c i = is_call c i && eqb (high c (i + name_cell + kind_cell)) typed_kind

-- question 65 of the call at the cell i of the macro at the cell m, of any text
pub record Counts (c : List ℕ) (i m : ℕ) (r : Fault) : Type 0 where
  pub is : (s : List ℕ) → r ≡ fault_of (places_of 65 (argument_faults (call_in s c i) (macro_in s c m)))

-- the faults of a change; and of all bodies and the section, which is at the cell q
abbrev pub change_faults : List Macro → Change → List met.Fault
change_faults ms d = each (piece_faults ms) d.pieces

abbrev pub typed_in : List ℕ → List ℕ → List ℕ → ℕ → ℕ → List met.Fault
typed_in s c firsts n q = each (piece_faults (macros_in s c firsts n)) (each (λ m. m.body) (macros_in s c firsts n) ++ body_in s c q)

-- questions 64 and 65 of some faults
pub record Told (fs : List met.Fault) (r : Faults) : Type 0 where
  pub unknown_is : r.unknown ≡ fault_of (places_of 64 fs)
  pub uneven_is : r.uneven ≡ fault_of (places_of 65 fs)

-- of two rows, that the first n numbers are the same
pub record FirstsKept (n : ℕ) (xs ys : List ℕ) : Type 0 where
  pub same : (k : ℕ) → k < n → get_or ys k 0 ≡ get_or xs k 0
