-- The loops over the lines of the input.
use mathlib.Core.Path.{◌≡◌, refl, ap, sym, ◌∙◌}
use mathlib.Core.Bool.{Bool, true, false, cond}
use mathlib.Core.List.{List, [], ◌++◌}
use Prim.Native.Nat.{ℕ, ◌+◌, ◌-◌, ◌≤◌, ◌<◌}
use native.Mathlib.Omega.{arith}
use lib.ListN.{length, take, drop, length-append, length-take, length-drop, drop_of_length-le}
use lib.Seq.{drop-drop}
use Rattle.text_lines.specs.Lines.{lines, line_length, LineEnd}
use Rattle.console.specs.Console.{is_last, through, text_of}
use Rattle.console.specs.ConsoleLaws.{text_first, text-ends}
use Rattle.console.specs.Parts.{TextEnd}

-- ---- the text by its lines: those before `at` start with something else

pub record Parting (s : List ℕ) (at : ℕ) : Type 0 where
  pub within : at ≤ length s
  pub is : at + length (text_of (drop at s)) ≡ length (text_of s)

pub parting-none : (s : List ℕ) → Parting s 0
parting-none s = record { within = omega arith; is = omega arith }

module _ {s : List ℕ} {at r : ℕ} (u : Parting s at) (h : at < length s) (l : LineEnd s at r) {x : List ℕ} (xe : x ≡ take (r - at) (drop at s)) where
  abbrev n : ℕ
  n = line_length (drop at s)

  line_is : x ≡ take n (drop at s)
  line_is = let e : r - at ≡ n = omega (arith, l.is) in xe ∙ ap (λ (k : ℕ). take k (drop at s)) e

  text_is : (b : Bool) → is_last x ≡ b → text_of (drop at s) ≡ take n (drop at s) ++ cond b [] (text_of (drop r s))
  text_is b e =
      let d : drop n (drop at s) ≡ drop r s = drop-drop n at s ∙ ap (λ (k : ℕ). drop k s) (sym l.is) in
      text_first (drop at s) (simp length-drop (omega arith)) ∙ rw (← line_is, e, d) refl

  line-long : length (take n (drop at s)) ≡ n
  line-long = simp (length-take, length-drop) (omega (arith, l.is, l.within))

  pub parting-stop : is_last x ≡ true → TextEnd s r
  parting-stop e =
      let t : length (text_of (drop at s)) ≡ n = ap length (text_is true e) ∙ length-append (take n (drop at s)) [] ∙ omega (arith, line-long) in
      text-ends s (omega (arith, l.is, u.is))

  pub parting-next : is_last x ≡ false → Parting s r
  parting-next e =
      let t : length (text_of (drop at s)) ≡ n + length (text_of (drop r s)) =
      ap length (text_is false e) ∙ length-append (take n (drop at s)) (text_of (drop r s)) ∙ omega (arith, line-long) in
      record { within = l.within; is = omega (arith, l.is, u.is) }

pub parting-all : {s : List ℕ} {at : ℕ} → Parting s at → length s ≤ at → TextEnd s at
unfolding text_of through lines
parting-all {s} {at} u h =
    let none : text_of (drop at s) ≡ [] = ap text_of (drop_of_length-le s h) in
    let z : length (text_of (drop at s)) ≡ 0 = ap length none in
    text-ends s (omega (arith, u.is))
