-- The line of each byte of a text, read from the row of its lines.
use Rattle.std.specs.Prelude.{◌≡◌, refl, List, [], ◌∷◌, map, ℕ, zero, suc, ◌+◌, ◌≤◌, ◌<◌, eqb, length, get_or, take}
use Rattle.std.proofs.Common.{ap, ◌∙◌, not-suc-le-zero, le_of_suc-le-suc, arith, length-take}
use Rattle.std.proofs.lemmas.List.{length-map}
use Rattle.language.specs.Below.ListLaws.{keep-few}
use Rattle.language.specs.Limits as limit
use Rattle.syntax.specs.Items.{line_of, up_from, lines_of}
use Rattle.syntax.specs.Load.{Lined}

pub length_up : (n : ℕ) (s : List ℕ) → length (up_from n s) ≡ length s
unfolding up_from
length_up n [] = refl
length_up n (b ∷ s) = ap suc (length_up (suc n) s)

pub length-lines : (s : List ℕ) → length (lines_of s) ≡ length s
unfolding lines_of
length-lines s = length-map (up_from 0 s) (line_of s) ∙ length_up 0 s

mapped_at : (f : ℕ → ℕ) (n : ℕ) (s : List ℕ) (p d : ℕ) → p < length s → get_or (map f (up_from n s)) p d ≡ f (n + p)
unfolding up_from
mapped_at f n [] p d h = absurd (not-suc-le-zero h)
mapped_at f n (b ∷ s) zero d h = ap f (omega arith)
mapped_at f n (b ∷ s) (suc p) d h = mapped_at f (suc n) s p d (le_of_suc-le-suc h) ∙ ap f (omega arith)

pub line-here : (s : List ℕ) (p d : ℕ) → p < length s → get_or (lines_of s) p d ≡ line_of s p
unfolding lines_of
line-here s p d h = mapped_at (line_of s) 0 s p d h ∙ ap (line_of s) (omega arith)

-- the lines of a text that is short enough are from 1 to 32,768
pub line_low : (s : List ℕ) (p : ℕ) → line_of s p ≤ suc p
unfolding line_of
line_low s p = omega (arith, keep-few (eqb 10) (take p s), length-take p s)

pub line-least : (s : List ℕ) (p : ℕ) → 0 < line_of s p
unfolding line_of
line-least s p = omega arith

each-place : (P : ℕ → Type 0) (f : ℕ → ℕ) (n : ℕ) (s : List ℕ) → P 1 → ((k : ℕ) → k < n + length s → P (f k)) → (p : ℕ) → P (get_or (map f (up_from n s)) p 1)
unfolding up_from
each-place P f n [] one h p = one
each-place P f n (b ∷ s) one h zero = h n (omega arith)
each-place P f n (b ∷ s) one h (suc p) = each-place P f (suc n) s one (λ k l. h k (omega (arith, l))) p

pub text-lined : (s : List ℕ) → length s ≤ limit.text → Lined (lines_of s)
unfolding lines_of
text-lined s short =
    record {
      least = each-place (λ l. 0 < l) (line_of s) 0 s (omega arith) (λ k h. line-least s k);
      most = each-place (λ l. l ≤ limit.text) (line_of s) 0 s (omega arith) (λ k h. omega (arith, line_low s k, h, short));
    }
