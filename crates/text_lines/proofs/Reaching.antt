-- The end of a line by its new line.
use Rattle.std.specs.List.{position_or_len}
use Rattle.std.specs.Prelude.{◌≡◌, refl, Bool, true, false, not, cond, Option, Some, None, List, [], ◌∷◌, ℕ, suc, ◌+◌, ◌-◌, ◌≤◌, ◌<◌, eqb, length, drop, take, nat_lt, position}
use Rattle.std.proofs.Common.{ap, sym, ◌∙◌, arith, ltb-true, ltb-false, length-drop}
use Rattle.std.proofs.lemmas.List.{take_rest}
use Rattle.text_lines.specs.Lines.{line_length, LineEnd}

abbrev is_new : ℕ → Bool
is_new b = eqb b 10

-- the line's length is that of what stands before the new line, and 1 for it where there is one
line-some : (s : List ℕ) → position_or_len is_new s < length s → line_length s ≡ position_or_len is_new s + 1
unfolding line_length
line-some [] h = absurd (omega (arith, h))
line-some (b ∷ s) h = go (eqb b 10) h (line-some s)
  where
    go : (x : Bool) → cond (not x) (1 + position_or_len is_new s) 0 < suc (length s) → (position_or_len is_new s < length s → line_length s ≡ position_or_len is_new s + 1)
        → suc (cond x 0 (line_length s)) ≡ cond (not x) (1 + position_or_len is_new s) 0 + 1
    go true h k = refl
    go false h k = omega (arith, k (omega (arith, h)))

line-none : (s : List ℕ) → length s ≤ position_or_len is_new s → line_length s ≡ length s
unfolding line_length
line-none [] h = refl
line-none (b ∷ s) h = go (eqb b 10) h (line-none s)
  where
    go : (x : Bool) → suc (length s) ≤ cond (not x) (1 + position_or_len is_new s) 0 → (length s ≤ position_or_len is_new s → line_length s ≡ length s) → suc (cond x 0 (line_length s)) ≡ suc (length s)
    go true h k = absurd (omega (arith, h))
    go false h k = ap suc (k (omega (arith, h)))

-- what `position` answers
told : (s : List ℕ) (r : Option ℕ) → r ≡ position is_new s → (k : ℕ) → r ≡ Some k → (k < length s) × (line_length s ≡ k + 1)
told s r e k f = go (nat_lt (position_or_len is_new s) (length s)) refl (sym e ∙ f)
  where
    go : (b : Bool) → nat_lt (position_or_len is_new s) (length s) ≡ b → cond b (Some (position_or_len is_new s)) None ≡ Some k → (k < length s) × (line_length s ≡ k + 1)
    go true t q =
        let z : position_or_len is_new s ≡ k = cc in
        let h : position_or_len is_new s < length s = ltb-true _ _ t in
        (omega (arith, z, h), line-some s h ∙ ap (λ i. i + 1) z)
    go false t q = cc

untold : (s : List ℕ) (r : Option ℕ) → r ≡ position is_new s → r ≡ None → line_length s ≡ length s
untold s r e f = go (nat_lt (position_or_len is_new s) (length s)) refl (sym e ∙ f)
  where
    go : (b : Bool) → nat_lt (position_or_len is_new s) (length s) ≡ b → cond b (Some (position_or_len is_new s)) None ≡ None → line_length s ≡ length s
    go true t q = cc
    go false t q = line-none s (ltb-false _ _ t)

-- the part that the code lends is all from `at` on
module _ (s : List ℕ) (at : ℕ) (h : at < length s) (r : Option ℕ) (e : r ≡ position is_new (take (length s - at) (drop at s))) where
  behind : r ≡ position is_new (drop at s)
  behind = e ∙ ap (position is_new) (take_rest s at)

  pub end_behind : (k : ℕ) → r ≡ Some k → LineEnd s at (at + k + 1)
  end_behind k f =
      let t = told (drop at s) r behind k f in
      record { is = omega (arith, t.1); on = omega arith; within = omega (arith, t.0, length-drop at s, h) }

  pub end_last : r ≡ None → LineEnd s at (length s)
  end_last f = record { is = omega (arith, untold (drop at s) r behind f, length-drop at s, h); on = h; within = omega arith }
