-- Laws of lines: the first line and the rest; the text is the front of the input.
use Rattle.std.specs.Prelude.{◌≡◌, refl, Bool, true, false, cond, List, [], ◌∷◌, ◌++◌, ℕ, ◌+◌, ◌<◌, length, take, drop}
use Rattle.std.proofs.Common.{ap, sym, ◌∙◌, append_assoc, arith, length-append}
use Rattle.std.proofs.Math.Seq.{take-append_seam}
use Rattle.lists.specs.Lists.{joined}
use Rattle.cells.proofs.Laws.{pasted-front}
use Rattle.text_lines.specs.LineLaws.{lines-first, joined-lines}
use Rattle.text_lines.specs.Lines.{lines, line_length}
use Rattle.console.specs.Console.{is_last, through, text_of, input_of}
use Rattle.console.specs.Parts.{TextEnd, Put}

text_by : (l : List ℕ) (ls : List (List ℕ)) → joined (through (l ∷ ls)) ≡ l ++ cond (is_last l) [] (joined (through ls))
unfolding through
text_by l ls = go (is_last l)
  where
    go : (x : Bool) → joined (l ∷ cond x [] (through ls)) ≡ l ++ cond x [] (joined (through ls))
    go true = refl
    go false = refl

-- the text by its first line
pub text_first : (s : List ℕ) → 0 < length s
    → text_of s ≡ take (line_length s) s ++ cond (is_last (take (line_length s) s)) [] (text_of (drop (line_length s) s))
unfolding text_of
text_first s h = ap (λ ls. joined (through ls)) (lines-first s h) ∙ text_by (take (line_length s) s) (lines (drop (line_length s) s))

through-front : (ls : List (List ℕ)) → (t : List ℕ) × (joined ls ≡ joined (through ls) ++ t)
unfolding through
through-front [] = ([], refl)
through-front (l ∷ ls) = go (is_last l) (through-front ls)
  where
    go : (x : Bool) → ((t : List ℕ) × (joined ls ≡ joined (through ls) ++ t)) → (t : List ℕ) × (l ++ joined ls ≡ joined (l ∷ cond x [] (through ls)) ++ t)
    go true k = (joined ls, sym (append_assoc l [] (joined ls)))
    go false k = (k.0, ap (λ u. l ++ u) k.1 ∙ sym (append_assoc l (joined (through ls)) k.0))

text-front : (s : List ℕ) → (t : List ℕ) × (s ≡ text_of s ++ t)
unfolding text_of
text-front s = let k = through-front (lines s) in (k.0, sym (joined-lines s) ∙ k.1)

pub text-ends : (s : List ℕ) {r : ℕ} → r ≡ length (text_of s) → TextEnd s r
unfolding input_of
text-ends s {r} e =
    let k = text-front s in
    let long : length s ≡ length (text_of s) + length k.0 = ap length k.1 ∙ length-append (text_of s) k.0 in
    record {
      is = e;
      within = omega arith;
      text = ap (λ n. take n s) e ∙ ap (take (length (text_of s))) k.1 ∙ take-append_seam (text_of s) k.0;
      input = ap (λ n. drop n s) e;
    }

-- what is printed at the front stands there
pub put_front : {d x e : List ℕ} {r : ℕ} → Put d 0 x e r → take r e ≡ x
put_front {d} {x} {r = r} h = ap (take r) h.is ∙ pasted-front d x r (omega (arith, h.count))
