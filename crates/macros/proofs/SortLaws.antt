-- The sort of an element, by its tests.
use Rattle.std.specs.Prelude.{◌≡◌, refl, Bool, true, false, ◌&&◌, ℕ, eqb}
use Rattle.std.proofs.lemmas.Bool.{false≢true}
use Rattle.syntax.specs.Items.{same_sort}
use Rattle.syntax.specs.Items.Sort.{wrong}
use Rattle.syntax.proofs.SortLaws.{same-sort}
use Rattle.macros.specs.Elements.{Element, is_word, is_end, is_mark, is_star, is_close}

pub both_true : (a b : Bool) → (a && b) ≡ true → (a ≡ true) × (b ≡ true)
both_true true b h = (refl, h)
both_true false b h = absurd (false≢true h)

pub mark-sort : (b : ℕ) (t : Element) → is_mark b t ≡ true → t.sort ≡ wrong
mark-sort b t h = same-sort wrong t.sort (both_true (same_sort wrong t.sort) (eqb b t.byte) h).0

pub star-no-end : (t : Element) → is_star t ≡ true → is_end t ≡ false
star-no-end t h = rw (mark-sort 42 t h) refl

pub close-no-word : (t : Element) → is_close t ≡ true → is_word t ≡ false
close-no-word t h = rw (mark-sort 41 t h) refl
