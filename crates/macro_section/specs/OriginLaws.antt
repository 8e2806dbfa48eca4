-- Places, one after the other.
use Rattle.std.specs.Prelude.{◌≡◌, refl, true, List, [], ◌∷◌, ◌++◌, map, ℕ, zero, suc, ◌+◌, ◌-◌, ◌≤◌, ◌<◌, length, take, set, replicate}
use Rattle.std.proofs.Common.{sym, ap, ◌∙◌, true≢false, append_assoc, append-nil, add-one, arith, take-suc-set}
use Rattle.std.proofs.lemmas.List.{replicate-append-replicate}
use Rattle.macro_values.specs.Wrote.{is_over}
use Rattle.macro_values.specs.declared.Written.{Written}
use Rattle.syntax.specs.Items.{up_from}
use Rattle.macro_section.specs.Origins.{ups, Placed}

ups-more : (place n : ℕ) → ups place (suc n) ≡ ups place n ++ ((place + n) ∷ [])
unfolding ups
ups-more place zero = let e : place + 0 ≡ place = omega arith in rw e
ups-more place (suc n) = let e : place + suc n ≡ suc place + n = omega arith in rw e (ap (λ l. place ∷ l) (ups-more (suc place) n))

pub ups-from : (place : ℕ) (w : List ℕ) → ups place (length w) ≡ up_from place w
unfolding ups up_from
ups-from place [] = refl
ups-from place (b ∷ w) = ap (λ l. place ∷ l) (ups-from (suc place) w)

-- a turn: one place more
module _ (m m₀ : List ℕ) (from j : ℕ) (l : from ≤ j) (h : j < length m) where
  pub rise-turn : (place a : ℕ) → take j m ≡ take from m₀ ++ ups place (j - from) → a ≡ place + (j - from)
      → take (j + 1) (set m j a) ≡ take from m₀ ++ ups place (j + 1 - from)
  rise-turn place a e g =
      let k : j + 1 - from ≡ suc (j - from) = omega arith in
      rw (k, add-one, ups-more place (j - from))
      (take-suc-set m j a h ∙ ap (λ x. x ++ (a ∷ [])) e ∙ append_assoc (take from m₀) (ups place (j - from)) (a ∷ [])
      ∙ ap (λ b. take from m₀ ++ (ups place (j - from) ++ (b ∷ []))) g)

  pub repeat-turn : (a : ℕ) → take j m ≡ take from m₀ ++ replicate (j - from) a → take (j + 1) (set m j a) ≡ take from m₀ ++ replicate (j + 1 - from) a
  repeat-turn a e =
      let k : j + 1 - from ≡ (j - from) + 1 = omega arith in
      rw (k, add-one j)
      (take-suc-set m j a h ∙ ap (λ x. x ++ (a ∷ [])) e ∙ append_assoc (take from m₀) (replicate (j - from) a) (a ∷ [])
      ∙ ap (λ b. take from m₀ ++ b) (replicate-append-replicate {A = ℕ} (j - from) 1 a))

pub ups-none : (m : List ℕ) (place from : ℕ) → take from m ≡ take from m ++ ups place (from - from)
unfolding ups
ups-none m place from = let e : from - from ≡ 0 = omega arith in rw e (sym (append-nil (take from m)))

pub repeat-none : (m : List ℕ) (from a : ℕ) → take from m ≡ take from m ++ replicate (from - from) a
repeat-none m from a = let e : from - from ≡ 0 = omega arith in rw e (sym (append-nil (take from m)))

-- nothing more is written
pub placed-over : (from : ℕ) (v : Written) (m places : List ℕ) → is_over v ≡ true → Placed from v m m places
placed-over from v m places e = record { size = refl; is = λ z. absurd (true≢false (sym e ∙ z)) }

pub replicated : (at : ℕ) (w : List ℕ) → replicate (length w) at ≡ map (λ b. at) w
replicated at [] = refl
replicated at (b ∷ w) = ap (λ l. at ∷ l) (replicated at w)
