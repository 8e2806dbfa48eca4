-- Questions 06 and 70 by marks are those of the labels that have these marks.
use Rattle.std.specs.Prelude.{◌≡◌, refl, Bool, true, false, cond, List, [], ◌∷◌, ◌++◌, map, ℕ, ◌+◌, ◌-◌, ◌≤◌, T, length, take, drop}
use Rattle.std.proofs.Common.{sym, ap, subst, ◌∙◌, arith, length-take, get_or-take, get_or-drop}
use Rattle.std.proofs.lemmas.List.Elements.{All-from_get_or}
use Rattle.drafts.specs.DraftingLaws.{place-back}
use Rattle.drafts.specs.Marks.{mark, place_by, word_by, Marked, marks_in}
use Rattle.drafts.specs.Tabled.{Spelt}
use Rattle.language.specs.Limits as limit
use Rattle.layout.specs.Bounds.{Each}
use Rattle.lists.specs.Lists.{any, keep, bytes_equal}
use Rattle.syntax.specs.Items.{Item, is, places}
use Rattle.syntax.specs.Items.Sort.{word}
use Rattle.syntax.specs.Questions.{repeated}
use Rattle.syntax.specs.Statements.{reserved}
use Rattle.names.specs.Names.{Marks, repeated_by, reserved_by, Repeatable}

-- a label of the text s whose mark names it
pub record NamedLabel (s : List ℕ) (l : Item) : Type 0 where
  pub is_word : T (is word l)
  pub spelt : Spelt s l
  pub short : length l.chars ≤ limit.item

pub repeated-marks : (s : List ℕ) (names : List (List ℕ)) (ls : List Item) → Each (NamedLabel s) ls → repeated_by s names (map mark ls) ≡ repeated names ls
unfolding repeated_by repeated
repeated-marks s names [] h = refl
repeated-marks s names (l ∷ ls) (h, hs) =
    let w = h.spelt.spells h.is_word in
    let p = place-back l.at (length l.chars) (omega (arith, h.short)) in
    rw (w, p) (ap (λ ps. cond (any (bytes_equal l.chars) names) (l.at ∷ []) [] ++ ps) (repeated-marks s (names ++ (l.chars ∷ [])) ls hs))

pub reserved-marks : (s : List ℕ) (ls : List Item) → Each (NamedLabel s) ls → reserved_by s (map mark ls) ≡ places (keep (λ l. reserved l.chars) ls)
reserved-marks s [] h = refl
reserved-marks s (l ∷ ls) (h, hs) =
    let w = h.spelt.spells h.is_word in
    rw w (go (reserved l.chars) (place-back l.at (length l.chars) (omega (arith, h.short))) (keep (λ m. reserved (word_by s m)) (map mark ls)) (keep (λ l. reserved l.chars) ls) (reserved-marks s ls hs))
  where
    go : (b : Bool) → place_by (mark l) ≡ l.at → (ms : List ℕ) (ks : List Item) → map place_by ms ≡ places ks → map place_by (cond b (mark l ∷ ms) ms) ≡ places (cond b (l ∷ ks) ks)
    go true p ms ks e = λ i. p i ∷ e i
    go false p ms ks e = e

-- the words of a part of the first marks are in the text
module _ {s ms : List ℕ} {n : ℕ} (r : Repeatable s ms n) where
  pub marks-within : (a b : ℕ) → b ≤ n → Marks s (marks_in ms a b)
  marks-within a b l = All-from_get_or (Marked s) (marks_in ms a b) 0 (λ i h.
      let k : length (marks_in ms a b) ≤ b - a = simp length-take (omega arith) in
      subst (Marked s) (sym (get_or-take (b - a) (drop a ms) i 0 (omega (arith, k)) ∙ get_or-drop a ms i 0)) (r.marked (a + i) (omega (arith, k))))

  pub marks-before : (a : ℕ) → a ≤ n → Marks s (take a ms)
  marks-before a l = All-from_get_or (Marked s) (take a ms) 0 (λ i h.
      let k : length (take a ms) ≤ a = simp length-take (omega arith) in
      subst (Marked s) (sym (get_or-take a ms i 0 (omega (arith, k)))) (r.marked i (omega (arith, k))))
