-- The verdict of a marked text's items, from item to item.
use mathlib.Core.Path.{◌≡◌, refl, ap, sym, ◌∙◌}
use mathlib.Core.Bool.{true}
use Rattle.std.specs.Prelude.{None, Ok, is_some}
use mathlib.Core.List.{List, [], ◌∷◌, map}
use Prim.Native.Nat.{ℕ, ◌≤◌}
use native.Mathlib.Omega.{arith}
use lib.ListN.{length}
use Rattle.lexer.specs.declared.Token.{Token}
use Rattle.lexer.specs.Tokens.{item_of, TokenAt}
use Rattle.macros.specs.Marks.{byte_at, whole_questions}
use Rattle.macro_marks.specs.Parts.{items_from}
use Rattle.macro_marks.specs.ItemLaws.{none_here, item-here}
use Rattle.statements.specs.Checks.{worst, token_verdict}
use Rattle.statements.specs.CheckLaws.{worse-clear, worse_assoc, worst-decides}
use Rattle.statements.specs.Faults.{Verdict, verdict_of, worse}
use Rattle.statements.specs.Groups.{item_questions}
use Rattle.syntax.specs.Items.{Item}
use Rattle.syntax.specs.Verdict.{first_no}
use Rattle.macro_questions.specs.Whole.{Whole, judged, judged_token}
use Rattle.macro_questions.specs.WholeLaws.{whole-judged, judged-told}

abbrev judged_from : List ℕ → List ℕ → ℕ → List Item
judged_from s m n = map (judged s) (items_from m n)

-- w is the verdict of the items before place n
pub record Asking (s m : List ℕ) (n : ℕ) (w : Verdict) : Type 0 where
  pub most : n ≤ length m
  is : worst (judged_from s m 0) ≡ worse w (worst (judged_from s m n))

pub asking-first : {s m : List ℕ} → Asking s m 0 (Ok tt)
asking-first = record { most = omega arith; is = refl }

module _ {s m : List ℕ} {n : ℕ} {w : Verdict} {t : Token} (u : Asking s m n w) (k : TokenAt m n t) where
  pub all_asked : Whole s m → t.sort ≡ None → verdict_of w ≡ first_no (whole_questions s)
  unfolding worst
  all_asked p e =
      let none : judged_from s m n ≡ [] = ap (map (judged s)) (none_here k e) in
      let v : worst (judged_from s m 0) ≡ w = u.is ∙ rw none (worse-clear w) in
      sym
      (ap first_no (whole-judged s) ∙ ap (λ (l : List ℕ). first_no (item_questions (judged_from s l 0))) (sym p.is) ∙ worst-decides (judged_from s m 0) ∙ ap verdict_of v)

  pub asking-on : is_some t.sort ≡ true → {b : ℕ} → b ≡ byte_at s t.at → {v : Verdict} → v ≡ worse w (token_verdict (judged_token t b)) → Asking s m t.next v
  unfolding worst
  asking-on e {b} d {v} f =
      let one : judged_from s m n ≡ judged s (item_of m t) ∷ judged_from s m t.next = ap (map (judged s)) (item-here k e) in
      let rest : Verdict = worst (judged_from s m t.next) in
      record {
        most = k.stands.most;
        is = u.is
            ∙ ap (λ (js : List Item). worse w (worst js)) one
            ∙ ap (λ (x : Verdict). worse w (worse x rest)) (sym (judged-told s k.stands d))
            ∙ sym (worse_assoc w (token_verdict (judged_token t b)) rest)
            ∙ ap (λ (x : Verdict). worse x rest) (sym f);
      }
