-- An argument's cell by its kind.
use Rattle.std.proofs.Common.{◌≡◌, sym, ap, ◌∙◌, ℕ, List, Bool, cond, eqb, ◌%◌, ◌/◌, ◌<◌, ◌+◌}
use mathlib.Core.Bool.{true≢false}
use native.Mathlib.Decide.{dec_lt}
use native.Mathlib.Omega.{arith}
use Rattle.std.specs.Prelude.{Result, Ok, Err, ltb, ◌^◌}
use Rattle.layout.specs.Cells.{cell}
use Rattle.layout.specs.Places as layout
use Rattle.layout.specs.ArgumentKinds.{IsKind}
use Rattle.layout.specs.declared.ArgumentKind.{ArgumentKind}
use Rattle.layout.specs.declared.ArgumentKind.TheVariants.{Nothing, Letter, Label, Switch, Class, Text, Number}
use Rattle.layout.specs.declared.NoKind.{NoKind}
use Rattle.check_parts.specs.Parts.{letter_fits, class_fits, ref_fits, arg_fits, form_bit}

module _ (t : List ℕ) (x : ℕ) where
  -- what is asked of the cell by its kind
  abbrev fits : Result ArgumentKind NoKind → Bool
  fits (Ok Nothing) = eqb x 0
  fits (Ok Letter) = letter_fits (x / 8)
  fits (Ok Label) = ltb (x / 8) (cell t layout.label_count)
  fits (Ok Switch) = ltb (x / 8) (cell t layout.switch_count)
  fits (Ok Class) = class_fits (x / 8)
  fits (Ok Text) = ref_fits t (x / 8)
  fits (Ok Number) = ltb (x / 8) (31 + cell t layout.number_count)
  fits (Err e) = eqb x 0

  -- and the set of its form
  abbrev form : Result ArgumentKind NoKind → ℕ
  form (Ok Nothing) = 262144
  form (Ok Letter) = cond (ltb (x / 8 / 64) 12) (2 ^ (x / 8 / 64)) 0
  form (Ok Label) = 32768
  form (Ok Switch) = cond (eqb (cell t (layout.first_switch + x / 8) % 2) 1) 65536 131072
  form (Ok Class) = 8192
  form (Ok Text) = 16384
  form (Ok Number) = 4096
  form (Err e) = 262144

  past-kinds : {e : NoKind} → IsKind (x % 8) (Err e) → 7 ≡ x % 8
  past-kinds h = go (dec_lt (x % 8) 7)
    where
      go : Dec (x % 8 < 7) → 7 ≡ x % 8
      go (yes l) = absurd (true≢false (sym (h.some l)))
      go (no l) = omega arith

  fits-by : (r : Result ArgumentKind NoKind) → IsKind (x % 8) r → fits r ≡ arg_fits t x
  unfolding arg_fits
  fits-by (Ok Nothing) h = rw (← h.number_is)
  fits-by (Ok Letter) h = rw (← h.number_is)
  fits-by (Ok Label) h = rw (← h.number_is)
  fits-by (Ok Switch) h = rw (← h.number_is)
  fits-by (Ok Class) h = rw (← h.number_is)
  fits-by (Ok Text) h = rw (← h.number_is)
  fits-by (Ok Number) h = rw (← h.number_is)
  fits-by (Err e) h = rw (← past-kinds h)

  form-by : (r : Result ArgumentKind NoKind) → IsKind (x % 8) r → form r ≡ form_bit t x
  unfolding form_bit
  form-by (Ok Nothing) h = rw (← h.number_is)
  form-by (Ok Letter) h = rw (← h.number_is)
  form-by (Ok Label) h = rw (← h.number_is)
  form-by (Ok Switch) h = rw (← h.number_is)
  form-by (Ok Class) h = rw (← h.number_is)
  form-by (Ok Text) h = rw (← h.number_is)
  form-by (Ok Number) h = rw (← h.number_is)
  form-by (Err e) h = rw (← past-kinds h)

  -- the same where r is known
  pub arg_by : {r k : Result ArgumentKind NoKind} → IsKind (x % 8) r → r ≡ k → fits k ≡ arg_fits t x
  arg_by {r} h e = ap fits (sym e) ∙ fits-by r h

  pub form_by : {r k : Result ArgumentKind NoKind} → IsKind (x % 8) r → r ≡ k → form k ≡ form_bit t x
  form_by {r} h e = ap form (sym e) ∙ form-by r h
