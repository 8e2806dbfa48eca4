-- Laws of the rounds: the number stays, the order stays, and at the end no line can be dropped.
use Rattle.std.specs.Prelude.{◌≡◌, ◌≢◌, Bool, cond, drop}
use Rattle.std.proofs.Math.Path.{refl, subst}
use Rattle.std.proofs.Common.{ap, sym, ◌∙◌, ⊎_elim, eq-or-lt_of_le, le_of_suc-le-suc, arith, length-append, take_at, drop_at}
use Rattle.std.proofs.Math.Bool.{true, false}
use mathlib.Core.List.Sublistᴰ
use mathlib.Core.List.{List, [], ◌∷◌, ◌++◌, reverse, append-nil, append_assoc, reverse-cons, reverse-reverse}
use Prim.Native.Nat.{ℕ, zero, suc, ◌+◌, ◌≤◌}
use Rattle.std.proofs.Math.Dec.{eqb}
use Rattle.std.proofs.Math.ListN.{length, length-reverse}
use borrow.Author.Tests.{eqb-true, eqb-false}
use Rattle.shorten_calls.specs.Shortening.{number_of, round, round_of, rounds}
use Rattle.shorten_calls.specs.Parts.{InOrder, without, NoneToDrop}

-- a line put back between those not tried and those kept
pub put_back : (l : List ℕ) (left after : List (List ℕ)) → reverse left ++ (l ∷ after) ≡ reverse (l ∷ left) ++ after
put_back l left after = sym (append_assoc (reverse left) (l ∷ []) after) ∙ ap (λ (u : List (List ℕ)). u ++ after) (sym (reverse-cons l left))

pub fewer : {xs ys : List (List ℕ)} → InOrder xs ys → length xs ≤ length ys
fewer Sublistᴰ.slnil = omega arith
fewer (Sublistᴰ.cons s) = omega (arith, fewer s)
fewer (Sublistᴰ.cons-cons e s) = omega (arith, fewer s)

pub as_many : {xs ys : List (List ℕ)} → InOrder xs ys → length xs ≡ length ys → xs ≡ ys
as_many Sublistᴰ.slnil h = refl
as_many (Sublistᴰ.cons s) h = absurd (omega (arith, fewer s, h))
as_many (Sublistᴰ.cons-cons e s) h = let k = as_many s (omega (arith, h)) in cc

module _ (cells n : ℕ) where
  -- ---- one round

  round_number : (left after : List (List ℕ)) → number_of cells (reverse left ++ after) ≡ n → number_of cells (round cells n after left) ≡ n
  unfolding round
  round_number [] after h = h
  round_number (l ∷ left) after h = go (eqb (number_of cells (reverse left ++ after)) n) refl (round_number left)
    where
      go : (b : Bool) → eqb (number_of cells (reverse left ++ after)) n ≡ b
          → ((u : List (List ℕ)) → number_of cells (reverse left ++ u) ≡ n → number_of cells (round cells n u left) ≡ n)
          → number_of cells (round cells n (cond b after (l ∷ after)) left) ≡ n
      go true e k = k after (eqb-true (number_of cells (reverse left ++ after)) n e)
      go false e k = k (l ∷ after) (ap (number_of cells) (put_back l left after) ∙ h)

  round-order : (left after : List (List ℕ)) → InOrder (round cells n after left) (reverse left ++ after)
  unfolding round
  round-order [] after = Sublistᴰ.refl after
  round-order (l ∷ left) after = go (eqb (number_of cells (reverse left ++ after)) n) (round-order left)
    where
      back : InOrder (reverse left ++ (l ∷ after)) (reverse (l ∷ left) ++ after)
      back = subst (λ (u : List (List ℕ)). InOrder (reverse left ++ (l ∷ after)) u) (put_back l left after) (Sublistᴰ.refl (reverse left ++ (l ∷ after)))

      go : (b : Bool) → ((u : List (List ℕ)) → InOrder (round cells n u left) (reverse left ++ u))
          → InOrder (round cells n (cond b after (l ∷ after)) left) (reverse (l ∷ left) ++ after)
      go true k =
          Sublistᴰ.trans (k after) (Sublistᴰ.trans (Sublistᴰ.append (Sublistᴰ.refl (reverse left)) (Sublistᴰ.cons {a = l} (Sublistᴰ.refl after))) back)
      go false k = Sublistᴰ.trans (k (l ∷ after)) back

  -- a round that drops none tried each line in vain
  round-none : (left after : List (List ℕ)) → length (round cells n after left) ≡ length left + length after
      → NoneToDrop cells n (length left) (reverse left ++ after)
  unfolding round
  round-none [] after h = λ i k. absurd (omega (arith, k))
  round-none (l ∷ left) after h = go (eqb (number_of cells (reverse left ++ after)) n) refl h (round-none left (l ∷ after))
    where
      size : length (reverse left) ≡ length left
      size = length-reverse left

      drops : without (length left) (reverse left ++ (l ∷ after)) ≡ reverse left ++ after
      drops =
          ap (λ (u : List (List ℕ)). u ++ drop (suc (length left)) (reverse left ++ (l ∷ after))) (take_at (reverse left) (l ∷ after) (length left) size)
          ∙ ap (λ (u : List (List ℕ)). reverse left ++ drop (suc (length left)) u) (sym (append_assoc (reverse left) (l ∷ []) after))
          ∙ ap (λ (u : List (List ℕ)). reverse left ++ u)
          (drop_at (reverse left ++ (l ∷ [])) after (suc (length left)) (length-append (reverse left) (l ∷ []) ∙ omega (arith, size)))

      go : (b : Bool) → eqb (number_of cells (reverse left ++ after)) n ≡ b
          → length (round cells n (cond b after (l ∷ after)) left) ≡ suc (length left) + length after
          → (length (round cells n (l ∷ after) left) ≡ length left + suc (length after) → NoneToDrop cells n (length left) (reverse left ++ (l ∷ after)))
          → NoneToDrop cells n (suc (length left)) (reverse (l ∷ left) ++ after)
      go true e h ih =
          absurd (omega (arith, fewer (round-order left after), length-append (reverse left) after, size, h))
      go false e h ih =
          let rest = ih (omega (arith, h)) in
          subst (λ (u : List (List ℕ)). NoneToDrop cells n (suc (length left)) u) (put_back l left after)
          (λ i k. ⊎_elim
          (λ (q : i ≡ length left). λ z. eqb-false (number_of cells (reverse left ++ after)) n e
          (ap (number_of cells) (sym drops) ∙ ap (λ (j : ℕ). number_of cells (without j (reverse left ++ (l ∷ after)))) (sym q) ∙ z))
          (λ q. rest i q) (eq-or-lt_of_le (le_of_suc-le-suc k)))

  module _ (ls : List (List ℕ)) where
    all_of : reverse (reverse ls) ++ [] ≡ ls
    all_of = append-nil (reverse (reverse ls)) ∙ reverse-reverse ls

    pub of_number : number_of cells ls ≡ n → number_of cells (round_of cells n ls) ≡ n
    of_number h = round_number (reverse ls) [] (ap (number_of cells) all_of ∙ h)

    pub of-order : InOrder (round_of cells n ls) ls
    of-order = subst (λ (u : List (List ℕ)). InOrder (round_of cells n ls) u) all_of (round-order (reverse ls) [])

    pub of_none : length (round_of cells n ls) ≡ length ls → NoneToDrop cells n (length ls) ls
    of_none h =
        subst (λ (u : List (List ℕ)). NoneToDrop cells n (length ls) u) all_of
        (subst (λ (k : ℕ). NoneToDrop cells n k (reverse (reverse ls) ++ [])) (length-reverse ls) (round-none (reverse ls) [] (omega (arith, h, length-reverse ls))))

  -- ---- the rounds

  pub rounds-number : (k : ℕ) (ls : List (List ℕ)) → number_of cells ls ≡ n → number_of cells (rounds cells k n ls) ≡ n
  unfolding rounds
  rounds-number zero ls h = h
  rounds-number (suc k) ls h = go (eqb (length (round_of cells n ls)) (length ls)) (rounds-number k (round_of cells n ls) (of_number ls h))
    where
      go : (b : Bool) → number_of cells (rounds cells k n (round_of cells n ls)) ≡ n → number_of cells (elim b [ true ↦ ls | false ↦ rounds cells k n (round_of cells n ls) ]) ≡ n
      go true ih = h
      go false ih = ih

  pub rounds-order : (k : ℕ) (ls : List (List ℕ)) → InOrder (rounds cells k n ls) ls
  unfolding rounds
  rounds-order zero ls = Sublistᴰ.refl ls
  rounds-order (suc k) ls = go (eqb (length (round_of cells n ls)) (length ls)) (rounds-order k (round_of cells n ls))
    where
      go : (b : Bool) → InOrder (rounds cells k n (round_of cells n ls)) (round_of cells n ls) → InOrder (elim b [ true ↦ ls | false ↦ rounds cells k n (round_of cells n ls) ]) ls
      go true ih = Sublistᴰ.refl ls
      go false ih = Sublistᴰ.trans ih (of-order ls)

  -- with as many rounds as lines, the last drops none
  pub rounds-none : (k : ℕ) (ls : List (List ℕ)) → length ls ≤ k → NoneToDrop cells n (length (rounds cells k n ls)) (rounds cells k n ls)
  unfolding rounds
  rounds-none zero ls h = λ i l. absurd (omega (arith, h, l))
  rounds-none (suc k) ls h = go (eqb (length (round_of cells n ls)) (length ls)) refl (rounds-none k (round_of cells n ls))
    where
      go : (b : Bool) → eqb (length (round_of cells n ls)) (length ls) ≡ b
          → (length (round_of cells n ls) ≤ k → NoneToDrop cells n (length (rounds cells k n (round_of cells n ls))) (rounds cells k n (round_of cells n ls)))
          → let r : List (List ℕ) = elim b [ true ↦ ls | false ↦ rounds cells k n (round_of cells n ls) ] in NoneToDrop cells n (length r) r
      go true e ih = of_none ls (eqb-true (length (round_of cells n ls)) (length ls) e)
      go false e ih =
          let less : length (round_of cells n ls) ≢ length ls = eqb-false (length (round_of cells n ls)) (length ls) e in
          ih (omega (arith, less, fewer (of-order ls), h))
