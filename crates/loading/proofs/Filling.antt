-- The row of a text's lines, as it is filled from its beginning.
use mathlib.Core.Path.{◌≡◌, refl, sym, ap, ◌∙◌}
use mathlib.Core.Bool.{cond}
use mathlib.Core.List.{List, [], ◌∷◌, ◌++◌}
use Prim.Native.Nat.{ℕ, suc, ◌+◌, ◌≤◌, ◌<◌}
use native.Mathlib.Numerals.{add-one}
use native.Mathlib.Omega.{arith}
use lib.Dec.{eqb}
use lib.ListN.{length, get_or, take, set, length-take, length-set}
use lib.Seq.{take-suc, take-suc-set, take-length}
use Rattle.macros.proofs.LineLaws.{line_on}
use Rattle.language.specs.Limits as limit
use Rattle.lists.specs.ListLaws.{keep-few}
use Rattle.syntax.specs.Items.{line_of, lines_of}
use Rattle.syntax.proofs.LineLaws.{length-lines, line-here}
use Rattle.loading.specs.Texts.{Fillable, Fills}

-- the lines of the first i bytes stand in the row l, and the line of the next is at hand
pub record Filling (s : List ℕ) (i line : ℕ) (l : List ℕ) (size : ℕ) : Type 0 where
  pub inside : i ≤ length s
  pub line_is : line ≡ line_of s i
  pub sized : length l ≡ size
  pub filled : take i l ≡ take i (lines_of s)

pub filling-none : (s l : List ℕ) → Filling s 0 1 l (length l)
unfolding line_of
filling-none s l = record { inside = omega arith; line_is = refl; sized = refl; filled = refl }

module _ {s l₀ : List ℕ} (h : Fillable s l₀) {i line : ℕ} {l : List ℕ} (u : Filling s i line l (length l₀)) where
  pub line_low : line ≤ suc limit.text
  unfolding line_of
  line_low = omega (arith, u.line_is, u.inside, h.short, keep-few (eqb 10) (take i s), length-take i s)

  pub filling-next : i < length s → {k : ℕ} → k ≡ cond (eqb 10 (get_or s i 0)) 1 0 → Filling s (i + 1) (line + k) (set l i line) (length l₀)
  filling-next more {k} e =
      record {
        inside = omega (arith, more);
        line_is = omega (arith, u.line_is, e, line_on s i more);
        sized = length-set l i line ∙ u.sized;
        filled = rw add-one
            (take-suc-set l i line (omega (arith, more, h.room, u.sized))
            ∙ ap (λ (x : List ℕ). x ++ (line ∷ [])) u.filled
            ∙ ap (λ (b : ℕ). take i (lines_of s) ++ (b ∷ [])) (u.line_is ∙ sym (line-here s i 0 more))
            ∙ sym (take-suc (lines_of s) i 0 (omega (arith, more, length-lines s))));
      }

  pub filling-all : length s ≤ i → Fills s l
  filling-all e =
      let q : i ≡ length s = omega (arith, e, u.inside) in
      ap (λ (n : ℕ). take n l) (sym q) ∙ u.filled ∙ ap (λ (n : ℕ). take n (lines_of s)) (q ∙ sym (length-lines s)) ∙ take-length (lines_of s)
