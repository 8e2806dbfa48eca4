-- Laws of lines: the first line and the rest; the lines are all of the text.
use Rattle.std.specs.Prelude.{◌≡◌, refl, Bool, true, false, cond, List, [], ◌∷◌, ℕ, suc, ◌<◌, eqb, length, take, drop}
use Rattle.std.proofs.Common.{ap, ◌∙◌, arith}
use Rattle.lists.specs.Lists.{joined}
use Rattle.text_lines.specs.Lines.{onto, lines, line_length}

pub lines-first : (s : List ℕ) → 0 < length s → lines s ≡ take (line_length s) s ∷ lines (drop (line_length s) s)
unfolding lines line_length
lines-first [] h = absurd (omega (arith, h))
lines-first (b ∷ s) h = go (eqb b 10) s (lines-first s)
  where
    go : (x : Bool) (s : List ℕ) → (0 < length s → lines s ≡ take (line_length s) s ∷ lines (drop (line_length s) s))
        → cond x ((b ∷ []) ∷ lines s) (onto b (lines s)) ≡ take (suc (cond x 0 (line_length s))) (b ∷ s) ∷ lines (drop (suc (cond x 0 (line_length s))) (b ∷ s))
    go true s k = refl
    go false [] k = refl
    go false (c ∷ s) k = ap (onto b) (k (omega arith))

joined-onto : (b : ℕ) (ls : List (List ℕ)) → joined (onto b ls) ≡ b ∷ joined ls
joined-onto b [] = refl
joined-onto b (l ∷ ls) = refl

pub joined-lines : (s : List ℕ) → joined (lines s) ≡ s
unfolding lines
joined-lines [] = refl
joined-lines (b ∷ s) = go (eqb b 10) (joined-lines s)
  where
    go : (x : Bool) → joined (lines s) ≡ s → joined (cond x ((b ∷ []) ∷ lines s) (onto b (lines s))) ≡ b ∷ s
    go true k = ap (λ l. b ∷ l) k
    go false k = joined-onto b (lines s) ∙ ap (λ l. b ∷ l) k
