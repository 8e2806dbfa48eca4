-- What the cells of a change hold, as they are read.
use mathlib.Core.Path.{◌≡◌, sym, ap, subst, ◌∙◌}
use mathlib.Core.Bool.{Bool, true, false}
use mathlib.Core.List.{List}
use Prim.Native.Nat.{ℕ, ◌+◌, ◌*◌, ◌≤◌, ◌<◌}
use native.Mathlib.Omega.{arith}
use Rattle.std.specs.Prelude.{Option, Some, None}
use lib.ListN.{get_or}
use Rattle.macros.specs.Expansion.{called_by}
use Rattle.macro_code.specs.Code.{high, bytes_at, argument_count, call_in, change_in, macro_in, macros_in, parameter_count}
use Rattle.macro_code.specs.Places.{name_cell}
use Rattle.macro_calls.specs.Calls.{is_typed_call, Counts, Finds, change_faults, Told, none_of}
use Rattle.macro_calls.specs.FaultLaws.{too_few, too_many, as_many, other-faults, called_faults, told_none, told-unknown, told-known}
use Rattle.statements.specs.Faults.{Fault}
use Rattle.std.specs.Prelude.{None, Some}

module _ (c : List ℕ) (i : ℕ) where
  module _ (m : ℕ) {g t : ℕ} (e : g ≡ argument_count c i) (f : t ≡ parameter_count c m) where
    pub counts-few : g < t → {p : ℕ} → p ≡ high c (i + name_cell) → Counts c i m (Some p)
    counts-few l u = record { is = λ s. ap Some u ∙ too_few s c i m (omega (arith, e, f)) }

    pub counts-many : t < g → {p : ℕ} → p ≡ high c (i + 4 + 2 * t) → Counts c i m (Some p)
    counts-many l u = record { is = λ s. ap Some (u ∙ ap (λ (j : ℕ). high c (i + 4 + 2 * j)) f) ∙ too_many s c i m (omega (arith, e, f)) }

    pub counts-right : t ≤ g → g ≤ t → Counts c i m None
    counts-right l k = record { is = λ s. as_many s c i m (omega (arith, e, f)) }

-- a change by what is found of it
module _ (s c firsts : List ℕ) (n i : ℕ) where
  pub told-other : {b : Bool} → b ≡ is_typed_call c i → b ≡ false → Told (change_faults (macros_in s c firsts n) (change_in s c i)) none_of
  told-other {b} e f = rw (other-faults (macros_in s c firsts n) s c i (sym e ∙ f)) told_none

  module _ {b : Bool} (e : b ≡ is_typed_call c i) (f : b ≡ true) {v : List ℕ} (name : v ≡ bytes_at s c (i + name_cell)) where
    finds : {r : Option ℕ} → Finds s c firsts n v r → Finds s c firsts n (bytes_at s c (i + name_cell)) r
    finds {r} found = subst (λ w. Finds s c firsts n w r) name found

    pub told-lost : Finds s c firsts n v None → {p : ℕ} → p ≡ high c (i + name_cell) → Told (change_faults (macros_in s c firsts n) (change_in s c i)) (record { unknown = Some p; uneven = None })
    unfolding call_in
    told-lost found u =
        rw (u, called_faults (macros_in s c firsts n) s c i (sym e ∙ f))
        (told-unknown (call_in s c i) (called_by (macros_in s c firsts n) (bytes_at s c (i + name_cell))) (sym (finds found).once_is))

    pub told-found : {k : ℕ} → Finds s c firsts n v (Some k) → {m : ℕ} → m ≡ get_or firsts k 0 → {r : Fault} → Counts c i m r
        → Told (change_faults (macros_in s c firsts n) (change_in s c i)) (record { unknown = None; uneven = r })
    told-found {k} found {m} u {r} counts =
        rw (called_faults (macros_in s c firsts n) s c i (sym e ∙ f), (finds found).only.only)
        (told-known (call_in s c i) (macro_in s c (get_or firsts k 0)) (rw u at (counts.is s)))
