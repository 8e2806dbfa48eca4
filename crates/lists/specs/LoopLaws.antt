-- Loops over a list by an index: what is found from index i on.
use Rattle.std.specs.Prelude.{◌≡◌, Bool, true, false, List, ◌∷◌, ℕ, suc, ◌+◌, ◌≤◌, ◌<◌, length, get_or, drop}
use Rattle.std.proofs.Common.{ap, add-one, arith, drop_of_length-le, drop-cons}
use Rattle.lists.specs.Lists.{all, any, ahead}

module _ {X : Type 0} (p : X → Bool) (x : X) (xs : List X) where
  pub ahead-zero : p x ≡ true → ahead p (x ∷ xs) ≡ 0
  ahead-zero e = ap (λ b. elim b [ true ↦ 0 | false ↦ suc (ahead p xs) ]) e

  pub ahead-suc : p x ≡ false → ahead p (x ∷ xs) ≡ suc (ahead p xs)
  ahead-suc e = ap (λ b. elim b [ true ↦ 0 | false ↦ suc (ahead p xs) ]) e

module _ (p : ℕ → Bool) (l : List ℕ) (i : ℕ) where
  pub any_here : i < length l → p (get_or l i 0) ≡ true → any p (drop i l) ≡ true
  any_here h e = rw (drop-cons l i 0 h, e)

  pub any_next : i < length l → p (get_or l i 0) ≡ false → any p (drop i l) ≡ any p (drop (i + 1) l)
  any_next h e = rw (drop-cons l i 0 h, e, add-one)

  pub any-end : length l ≤ i → any p (drop i l) ≡ false
  any-end h = rw (drop_of_length-le l h)

  pub all_here : i < length l → p (get_or l i 0) ≡ false → all p (drop i l) ≡ false
  all_here h e = rw (drop-cons l i 0 h, e)

  pub all-next : i < length l → p (get_or l i 0) ≡ true → all p (drop i l) ≡ all p (drop (i + 1) l)
  all-next h e = rw (drop-cons l i 0 h, e, add-one)

  pub all_end : length l ≤ i → all p (drop i l) ≡ true
  all_end h = rw (drop_of_length-le l h)

  -- of a count, what was passed is added
  pub ahead-here : i < length l → p (get_or l i 0) ≡ true → i ≡ i + ahead p (drop i l)
  ahead-here h e = rw (drop-cons l i 0 h, ahead-zero p (get_or l i 0) (drop (suc i) l) e) (omega arith)

  pub ahead-next : i < length l → p (get_or l i 0) ≡ false → i + ahead p (drop i l) ≡ (i + 1) + ahead p (drop (i + 1) l)
  ahead-next h e = rw (drop-cons l i 0 h, ahead-suc p (get_or l i 0) (drop (suc i) l) e, add-one) (omega arith)

  pub ahead-end : length l ≤ i → i ≡ i + ahead p (drop i l)
  ahead-end h = rw (drop_of_length-le l h) (omega arith)
