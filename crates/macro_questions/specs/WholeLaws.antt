-- The questions of a text with macros are those of its judged items, and the verdict of a judged token is that of its item.
use Rattle.std.specs.Prelude.{◌≡◌, Bool, true, false, cond, ◌&&◌, List, [], ◌∷◌, map, ℕ, suc, ◌+◌, length, Some}
use Rattle.std.proofs.Math.Path.{refl}
use Rattle.std.proofs.Common.{ap, sym, ◌∙◌}
use Rattle.std.proofs.Math.Bool.{not}
use Rattle.std.proofs.lemmas.Bool.{false≢true}
use Rattle.lexer.specs.declared.Token.{Token}
use Rattle.lexer.specs.Tokens.{item_of, Stands}
use Rattle.lists.specs.Lists.{among, filled, keep}
use Rattle.lists.specs.Quoted.{bytes}
use Rattle.macros.specs.Marks.{Reader, byte_at, items_in, marked_from, reader_after, whole_questions}
use Rattle.statements.specs.Checks.{item_verdict, token_verdict}
use Rattle.statements.specs.CheckLaws.{token-told}
use Rattle.statements.specs.Groups.{bad_text, too_long, item_questions}
use Rattle.scanner.specs.declared.Sort.{Sort}
use Rattle.syntax.specs.Items as items
use Rattle.syntax.specs.Items.{Item, is, places, same_sort}
use Rattle.syntax.specs.Items.Sort.{separator, word, colon, end, text, wrong}
use Rattle.macro_questions.specs.Whole.{judged, judged_token}

-- a marked text is as long as the text
pub marked-length : (st : Reader) (n : ℕ) (r : List ℕ) → length (marked_from st n r) ≡ length r
unfolding marked_from
marked-length st n [] = refl
marked-length st n (b ∷ r) = ap (λ (k : ℕ). suc k) (marked-length (reader_after st n b r) (n + 1) r)

-- ---- the questions

sort-judged : (k : items.Sort) (a : Bool) → (same_sort wrong (cond (same_sort wrong k && a) colon k) ≡ (same_sort wrong k && not a))
    × (same_sort text (cond (same_sort wrong k && a) colon k) ≡ same_sort text k)
sort-judged separator a = (refl, refl)
sort-judged word a = (refl, refl)
sort-judged colon a = (refl, refl)
sort-judged end a = (refl, refl)
sort-judged text a = (refl, refl)
sort-judged wrong true = (refl, refl)
sort-judged wrong false = (refl, refl)

module _ (s : List ℕ) where
  abbrev allowed : Item → Bool
  allowed i = among (byte_at s i.at) (bytes "*()'")

  wrong-judged : (i : Item) → is wrong (judged s i) ≡ (is wrong i && not (allowed i))
  wrong-judged i = (sort-judged i.sort (allowed i)).0

  text-judged : (i : Item) → bad_text (judged s i) ≡ bad_text i
  text-judged i = ap (λ (b : Bool). b && not (i.good && filled i.chars)) (sort-judged i.sort (allowed i)).1

  -- the same places are kept
  kept-judged : (p q : Item → Bool) → ((i : Item) → p (judged s i) ≡ q i) → (js : List Item) → places (keep q js) ≡ places (keep p (map (judged s) js))
  kept-judged p q h [] = refl
  kept-judged p q h (i ∷ js) = go (p (judged s i)) (q i) (h i) (kept-judged p q h js)
    where
      go : (a b : Bool) → a ≡ b → places (keep q js) ≡ places (keep p (map (judged s) js))
          → places (cond b (i ∷ keep q js) (keep q js)) ≡ places (cond a (judged s i ∷ keep p (map (judged s) js)) (keep p (map (judged s) js)))
      go true true e k = ap (λ (ps : List ℕ). i.at ∷ ps) k
      go true false e k = absurd (false≢true (sym e))
      go false true e k = absurd (false≢true e)
      go false false e k = k

  pub whole-judged : whole_questions s ≡ item_questions (map (judged s) (items_in s))
  unfolding whole_questions
  whole-judged =
      let js = items_in s in
      rw (kept-judged (is wrong) (λ i. is wrong i && not (allowed i)) wrong-judged js, kept-judged bad_text bad_text text-judged js, kept-judged too_long too_long (λ i. refl) js) refl

-- ---- a token's verdict

module _ (s : List ℕ) {m : List ℕ} {t : Token} (h : Stands m t) where
  abbrev as_colon : Bool → Item
  as_colon a = record { at = t.at; sort = cond a colon (item_of m t).sort; chars = (item_of m t).chars; good = t.good; colon = (item_of m t).colon }

  abbrev token_as_colon : Bool → Token
  token_as_colon a =
      record { sort = cond a (Some Sort.Colon) t.sort; at = t.at; end = t.end; next = t.next; len = t.len; good = t.good; colon = t.colon }

  either-told : (a : Bool) → token_verdict (token_as_colon a) ≡ item_verdict (as_colon a)
  either-told true = rw h.count refl
  either-told false = token-told h

  pub judged-told : {b : ℕ} → b ≡ byte_at s t.at → token_verdict (judged_token t b) ≡ item_verdict (judged s (item_of m t))
  judged-told {b} e =
      ap (λ (c : ℕ). token_verdict (judged_token t c)) e
      ∙ either-told (is wrong (item_of m t) && among (byte_at s t.at) (bytes "*()'"))
