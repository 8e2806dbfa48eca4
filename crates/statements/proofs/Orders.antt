-- Questions are ordered as their numbers are, and refusals by their questions and then by their places.
use mathlib.Core.Path.{◌≡◌, refl, ap, ◌∙◌}
use mathlib.Core.Bool.{Bool, true, false}
use mathlib.Core.List.{List, [], ◌∷◌}
use denote.Enum.Declared.{tag_of}
use Prim.Native.Nat.{ℕ}
use native.Mathlib.Omega.{arith}
use lib.Dec.{ltb}
use borrow.Author.Tests.{eq-eqb, ne_eqb, ltb-true, ltb-false}
use lib.IntN.{ℤ, pos}
use lib.ListN.{get_or}
use Rattle.std.proofs.Common.{int_cmp}
use Rattle.std.specs.Ordering.{nat_cmp}
use Rattle.statements.specs.contracts.Question.{the_type}
use Rattle.statements.specs.contracts.QuestionOrd as order
use Rattle.statements.specs.declared.Question.{Question}
use Rattle.statements.specs.declared.Question.TheVariants as code
use Rattle.statements.specs.Questions.{question_number}

abbrev numbers : List ℤ
numbers = pos 0 ∷ pos 1 ∷ pos 2 ∷ pos 6 ∷ pos 8 ∷ pos 10 ∷ pos 11 ∷ pos 12 ∷ pos 13 ∷ pos 14 ∷ pos 15 ∷ pos 16 ∷ pos 25 ∷ pos 40 ∷ pos 64 ∷ pos 65 ∷ pos 66 ∷ pos 70 ∷ []

told : (q : Question) → get_or numbers (tag_of the_type q) (pos 0) ≡ pos (question_number q)
told code.Heading = refl
told code.Count = refl
told code.Argument = refl
told code.RepeatedLabel = refl
told code.SwitchLabels = refl
told code.Operator = refl
told code.Room = refl
told code.Label = refl
told code.Switch = refl
told code.Byte = refl
told code.Text = refl
told code.Length = refl
told code.End = refl
told code.Size = refl
told code.Macros = refl
told code.Call = refl
told code.Expansion = refl
told code.LabelName = refl

int-nat : (a b : ℕ) → int_cmp (pos a) (pos b) ≡ nat_cmp a b
int-nat a b = go (ltb a b) refl (ltb b a) refl
  where
    go : (t : Bool) → ltb a b ≡ t → (u : Bool) → ltb b a ≡ u → int_cmp (pos a) (pos b) ≡ nat_cmp a b
    go true e u f = rw e refl
    go false e true f = let l = ltb-true b a f in rw (e, f, ne_eqb a b (λ q. omega (arith, l, q))) refl
    go false e false f =
        let l = ltb-false a b e in
        let m = ltb-false b a f in
        rw (e, f, eq-eqb a b (omega (arith, l, m))) refl

pub question_cmp : (q r : Question) → order.TheImpl.cmp-value.it q r ≡ nat_cmp (question_number q) (question_number r)
question_cmp q r = ap (λ (n : ℤ). int_cmp n (get_or numbers (tag_of the_type r) (pos 0))) (told q) ∙ ap (λ (n : ℤ). int_cmp (pos (question_number q)) n) (told r) ∙ int-nat (question_number q) (question_number r)
