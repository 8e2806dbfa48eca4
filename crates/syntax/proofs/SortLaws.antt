-- Sorts of one number are the same.
use Rattle.std.specs.Prelude.{◌≡◌, refl, true, List, [], ◌∷◌, get_or}
use Rattle.std.proofs.Common.{sym, ap, ◌∙◌, eqb-true}
use Rattle.syntax.specs.Items.{Sort, sort_number, same_sort}
use Rattle.syntax.specs.Items.Sort.{separator, word, colon, end, text, wrong}

abbrev sorts : List Sort
sorts = separator ∷ word ∷ colon ∷ end ∷ text ∷ wrong ∷ []

numbered : (k : Sort) → get_or sorts (sort_number k) separator ≡ k
numbered separator = refl
numbered word = refl
numbered colon = refl
numbered end = refl
numbered text = refl
numbered wrong = refl

pub same-sort : (j k : Sort) → same_sort j k ≡ true → k ≡ j
same-sort j k h = sym (numbered k) ∙ sym (ap (λ n. get_or sorts n separator) (eqb-true (sort_number j) (sort_number k) h)) ∙ numbered j
