-- From one item of a text to the next, as a loop over tokens meets them.
use Rattle.std.specs.Prelude.{◌≡◌, true, List, [], ◌∷◌, ℕ, ◌-◌, ◌≤◌, ◌<◌, length, get_or, Option, Some, None, is_some}
use Rattle.std.proofs.Math.Path.{refl}
use Rattle.std.proofs.Common.{ap, sym, ◌∙◌, arith, drop-cons}
use Rattle.std.proofs.Math.ListN.{get_or-eq_default}
use Rattle.lexer.specs.declared.Token.{Token}
use Rattle.lexer.specs.Tokens.{item_of, found_by, TokenAt}
use Rattle.macros.specs.Marks.{byte_at}
use Rattle.syntax.proofs.ItemLaws.{items-found}
use Rattle.syntax.specs.Scan.{items_then}
use Rattle.macro_marks.specs.Parts.{items_from, NextItem}

module _ {s : List ℕ} {n : ℕ} {t : Token} (k : TokenAt s n t) where
  by_token : items_from s n ≡ items_then s (found_by s t)
  by_token = items-found s n ∙ ap (items_then s) k.is

  pub none_here : t.sort ≡ None → items_from s n ≡ []
  unfolding items_then
  none_here e = by_token ∙ rw e refl

  pub item-here : is_some t.sort ≡ true → items_from s n ≡ item_of s t ∷ items_from s t.next
  unfolding items_then
  item-here e = by_token ∙ rw e refl

  -- the next place is further on
  pub further : is_some t.sort ≡ true → n < t.next
  further e = omega (arith, k.from, k.stands.some e, k.stands.behind)

pub next_shorter : {s : List ℕ} {n : ℕ} {r : Option Token} {t : Token} → NextItem s n r → r ≡ Some t → length s - t.next < length s - n
next_shorter h e = let k = h.some _ e in omega (arith, further k.found k.there, k.found.stands.most)

-- a byte of a text
pub byte-within : (s : List ℕ) (p : ℕ) → p < length s → get_or s p 0 ≡ byte_at s p
byte-within s p h = ap (λ (l : List ℕ). get_or l 0 0) (sym (drop-cons s p 0 h) ∙ drop-cons s p 10 h)

pub byte_past : (s : List ℕ) (p : ℕ) → length s ≤ p → 10 ≡ byte_at s p
byte_past s p h = sym (get_or-eq_default s 10 h)
