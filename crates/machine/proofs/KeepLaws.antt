-- Laws of what every step keeps.
use Rattle.std.specs.Prelude.{◌≡◌, refl, Bool, true, false, cond, ℕ, ◌≤◌, ◌<◌}
use Rattle.std.proofs.Common.{◌∙◌, arith}
use Rattle.language.specs.Values.{Store, Inputs}
use Rattle.machine.specs.Addresses.{times}
use Rattle.machine.specs.Keeps.{Shape, Sound, Keeps}
use Rattle.machine.proofs.AddressLaws.{ungiven-0, ungiven-old, ungiven-new}

shape-refl : (s : Store) → Shape s s
shape-refl s = record { exprs = refl; files = refl; outputs = refl; places = refl }

shape-trans : {s t u : Store} → Shape s t → Shape t u → Shape s u
shape-trans h k =
    record { exprs = k.exprs ∙ h.exprs; files = k.files ∙ h.files; outputs = k.outputs ∙ h.outputs; places = k.places ∙ h.places }

module _ (ins : Inputs) where
  pub keeps-refl : (s : Store) → Keeps ins s s
  keeps-refl s = record { shape = shape-refl s; later = omega arith; counts = λ n. omega arith; no_faults = λ h. h }

  pub keeps-trans : {s t u : Store} → Keeps ins s t → Keeps ins t u → Keeps ins s u
  keeps-trans h k =
      record {
        shape = shape-trans h.shape k.shape;
        later = omega (arith, h.later, k.later);
        counts = λ n. omega (arith, h.counts n, k.counts n);
        no_faults = λ e. k.no_faults (h.no_faults e);
      }

  pub keeps-cond : {s t u : Store} (b : Bool) → Keeps ins s t → Keeps ins s u → Keeps ins s (cond b t u)
  keeps-cond true h k = h
  keeps-cond false h k = k

  pub keeps-sound : {s t : Store} → Keeps ins s t → Sound ins s → Sound ins t
  keeps-sound {s} {t} k h =
      record {
        once = λ n. omega (arith, h.once n, k.counts n);
        from_1 = omega (arith, h.from_1, k.counts 0, ungiven-0 s.last);
        no_faults = k.no_faults h.no_faults;
      }

  -- no record has an address that is not given
  pub sound-given : {s : Store} → Sound ins s → (n : ℕ) → s.last < n → times n s ≡ 0
  sound-given {s} h n l = omega (arith, h.once n, ungiven-new l)

  -- two records never share an address
  pub sound-once : {s : Store} → Sound ins s → (n : ℕ) → times n s ≤ 1
  sound-once {s} h n = omega (arith, h.once n)

  -- an address that was given and that no record has, no record has again
  pub keeps-deleted : {s t : Store} → Keeps ins s t → (n : ℕ) → n ≤ s.last → times n s ≡ 0 → times n t ≡ 0
  keeps-deleted {s} k n l e = omega (arith, k.counts n, ungiven-old l)
