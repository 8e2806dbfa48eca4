-- "the other's own operators bring 10".
use Rattle.std.specs.Prelude.{◌≡◌, refl, false, true, not, ◌&&◌, ◌||◌, List, [], ◌∷◌, ltb, length}
use Rattle.std.proofs.Common.{ap, ◌∙◌}
use Rattle.std.proofs.Math.Bool.{or-true}
use Rattle.language.specs.Limits as limit
use Rattle.lists.specs.Lists.{filled, keep}
use Rattle.syntax.specs.Items.{Item, is, places}
use Rattle.syntax.specs.Items.Sort.{text, wrong}
use Rattle.syntax.specs.Questions.{operator_faults, questions}
use Rattle.syntax.specs.Statements.{own, keyword_of, same_keyword, is_name, front, operator}
use Rattle.syntax.specs.Statements.Keyword.{unknown, SEKCJA}
use Rattle.syntax.specs.Tables.{Draft, is_first}
use Rattle.syntax.specs.Verdict.{lowest, decide, first_no}
use Rattle.syntax.specs.Verdict.Verdict.{refuse}

-- a statement after the first that passes 14 to 16, its labels names, with an operator that only the other edition has
pub foreign-10 : (d : Draft) (x : List Item) (i : Item) → is_first d ≡ false → operator x ≡ i ∷ [] → own (not d.english) i.chars ≡ true
    → places (keep (λ j. not (is_name j)) (front x)) ≡ []
    → places (keep (is wrong) x) ≡ [] → places (keep (λ j. is text j && not (j.good && filled j.chars)) x) ≡ [] → places (keep (λ j. ltb limit.item (length j.chars)) x) ≡ []
    → first_no (questions d x) ≡ refuse 10 i.at
unfolding questions first_no decide lowest operator_faults
foreign-10 d x i f o w n a b c =
    let e : (same_keyword unknown (keyword_of i) || same_keyword SEKCJA (keyword_of i) || own (not d.english) i.chars) ≡ true =
    ap (λ t. same_keyword unknown (keyword_of i) || same_keyword SEKCJA (keyword_of i) || t) w ∙ or-true (same_keyword unknown (keyword_of i) || same_keyword SEKCJA (keyword_of i)) in
    rw (a, b, c, f, n, o, e) refl
