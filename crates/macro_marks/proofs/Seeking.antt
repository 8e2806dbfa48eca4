-- Whether a text has macros, from item to item.
use mathlib.Core.Path.{◌≡◌, refl, ap, sym, subst, ◌∙◌}
use mathlib.Core.Bool.{Bool, true, false, ◌&&◌, ◌||◌}
use mathlib.Core.List.{List}
use Rattle.std.specs.Prelude.{Option, Some, None, is_some}
use Rattle.std.proofs.lemmas.Option.{none-some, same_Some}
use Prim.Native.Nat.{ℕ, ◌≤◌}
use native.Mathlib.Omega.{arith}
use lib.ListN.{length}
use Rattle.lexer.specs.declared.Token.{Token}
use Rattle.lexer.specs.Tokens.{TokenAt}
use Rattle.scanner.specs.declared.Sort.{Sort}
use Rattle.scanner.specs.Sorts.{sort_in}
use Rattle.lists.specs.Lists.{any, among}
use Rattle.lists.specs.Quoted.{bytes}
use Rattle.macros.specs.Marks.{byte_at, has_macros}
use Rattle.std.specs.Bool.{then_some}
use Rattle.syntax.specs.Items.{same_sort}
use Rattle.syntax.specs.Items.Sort.{wrong}
use Rattle.macros.specs.Conditions.{is_macros}
use Rattle.macro_marks.specs.Parts.{items_from, Plain, ItemAt, NextItem}
use Rattle.macro_marks.specs.ItemLaws.{none_here, item-here}

-- the next item, or none
pub item-next : {s : List ℕ} {n : ℕ} {t : Token} → TokenAt s n t → NextItem s n (then_some (is_some t.sort) t)
item-next {s} {n} {t} k = go t.sort refl
  where
    go : (q : Option Sort) → t.sort ≡ q → NextItem s n (then_some (is_some q) t)
    go None z = record { none = λ e. record { token = t; found = k; none = z }; some = λ x e. absurd (none-some x e) }
    go (Some q) z =
        record { none = λ e. absurd (none-some t (sym e)); some = λ x e. subst (λ (u : Token). ItemAt s n u) (same_Some t x e) (record { found = k; there = ap is_some z }) }

-- none stands before place n
pub record Seeking (s : List ℕ) (n : ℕ) : Type 0 where
  pub most : n ≤ length s
  pub is : has_macros s ≡ any (is_macros s) (items_from s n)

pub seeking-first : (s : List ℕ) → Seeking s 0
unfolding has_macros
seeking-first s = record { most = omega arith; is = refl }

pub seeking-past : {s : List ℕ} {n e : ℕ} → Seeking s n → Plain s n e → Seeking s e
seeking-past u p = record { most = p.most; is = u.is ∙ p.is }

module _ {s : List ℕ} {n : ℕ} {t : Token} (u : Seeking s n) (k : TokenAt s n t) where
  pub none_left : t.sort ≡ None → false ≡ has_macros s
  none_left e = sym (u.is ∙ ap (any (is_macros s)) (none_here k e))

  module _ (e : is_some t.sort ≡ true) {b : ℕ} (d : b ≡ byte_at s t.at) {r : Bool} (f : r ≡ (same_sort wrong (sort_in t.sort) && among b (bytes "*()"))) where
    by-item : has_macros s ≡ (r || any (is_macros s) (items_from s t.next))
    by-item =
        u.is ∙ ap (any (is_macros s)) (item-here k e)
        ∙ ap (λ (a : Bool). a || any (is_macros s) (items_from s t.next)) (sym (f ∙ ap (λ (a : ℕ). same_sort wrong (sort_in t.sort) && among a (bytes "*()")) d))

    pub one-here : r ≡ true → true ≡ has_macros s
    one-here g = sym (by-item ∙ rw g refl)

    pub seeking-on : r ≡ false → Seeking s t.next
    seeking-on g = record { most = k.stands.most; is = by-item ∙ rw g refl }
