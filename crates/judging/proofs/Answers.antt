-- Questions 10 and 08 from a statement's head.
use mathlib.Core.Path.{◌≡◌, refl, ap, sym, ◌∙◌}
use mathlib.Core.Bool.{Bool, true, false, cond, not, ◌||◌, true≢false}
use mathlib.Core.List.{List, [], ◌∷◌, map}
use Prim.Native.Nat.{ℕ, ◌-◌, ◌≤◌}
use native.Mathlib.Omega.{arith}
use lib.ListN.{length, take, drop}
use lib.Seq.{take-length}
use Rattle.drafts.specs.DraftingLaws.{place-back}
use Rattle.drafts.specs.Marks.{mark, place_by}
use Rattle.statements.specs.FaultLaws.{fault-both}
use Rattle.statements.specs.Faults.{lower}
use Rattle.heads.specs.Heads.{own_item, bars, is_switch, head_keyword, Headed}
use Rattle.std.specs.Bool.{then_some}
use Rattle.heads.specs.HeadLaws.{item-bars, behind-by, no-keyword, no_operator, operator-here}
use Rattle.heads.specs.declared.Head.{Head}
use Rattle.language.specs.Limits as limit
use Rattle.layout.specs.Bounds.{Each}
use Rattle.lexer.specs.Tokens.{item_of}
use Rattle.lists.specs.Lists.{filled, if_any, keep}
use Rattle.statements.specs.Faults.{Fault}
use Rattle.std.specs.Prelude.{None, Some}
use Rattle.statements.specs.StatementAt.{statement_at, stops, fault_of}
use Rattle.syntax.specs.Items.{Item, is, places}
use Rattle.syntax.specs.Items.Sort.{word}
use Rattle.syntax.specs.Questions.{operator_faults, label_faults}
use Rattle.syntax.specs.Statements.{by_keyword, same_keyword, keyword_of, own, front, operator, keyword_in, is_name}
use Rattle.syntax.specs.Statements as Spec
use Rattle.syntax.specs.Verdict.{lowest}
use Rattle.words.specs.Keywords.{keyword_by, told, is_own}
use Rattle.judging.specs.Judging.{is_barred}
use Rattle.words.specs.WordLaws.{keyword-item}

by-switch : (X : List ℕ) (k : Spec.Keyword) → by_keyword (λ op. []) (λ goes_by_name. X) [] k ≡ cond (is_switch (told k)) X []
unfolding by_keyword
by-switch X Spec.Keyword.none = refl
by-switch X Spec.Keyword.unknown = refl
by-switch X Spec.Keyword.SEKCJA = refl
by-switch X Spec.Keyword.KONS = refl
by-switch X Spec.Keyword.KONP = refl
by-switch X (Spec.Keyword.switch goes_by_name) = refl
by-switch X (Spec.Keyword.instr op) = refl

places-back : (ls : List Item) → Each (λ l. length l.chars ≤ limit.item) ls → map place_by (map mark ls) ≡ places ls
places-back [] h = refl
places-back (l ∷ ls) (h, hs) = rw (place-back l.at (length l.chars) (omega (arith, h)), places-back ls hs) refl

-- an item that is no operator of a statement after the first, as question 10 has it and as the head tells it
abbrev barred : Bool → Item → Bool
barred english i = same_keyword Spec.Keyword.unknown (keyword_of i) || same_keyword Spec.Keyword.SEKCJA (keyword_of i) || own (not english) i.chars

item-barred : (english : Bool) (i : Item) → barred english i ≡ (bars (told (keyword_of i)) || own_item (not english) i)
item-barred english i = go (is word i) refl
  where
    go : (b : Bool) → is word i ≡ b → barred english i ≡ (bars (told (keyword_of i)) || own_item (not english) i)
    go true w = rw (item-bars i, w) refl
    go false w =
        let k : keyword_of i ≡ Spec.Keyword.unknown = keyword-item i ∙ ap (λ b. cond b (keyword_by i.chars) Spec.Keyword.unknown) w in
        rw k refl

module _ {s : List ℕ} {n : ℕ} {h : Head} (g : Headed s n h) where
  abbrev x : List Item
  x = statement_at s n

  abbrev it : Item
  it = item_of s h.op

  -- 10
  module _ (english : Bool) where
    abbrev wrong : Bool
    wrong = is_barred english h

    own_fault : (b : Bool) → stops h.op.sort ≡ b → fault_of (places (keep (barred english) (operator x))) ≡ then_some wrong h.op.at
    unfolding keyword_in lowest
    own_fault true z = ap (λ os. fault_of (places (keep (barred english) os))) (no_operator g z) ∙ sym (rw z refl)
    own_fault false z =
        let k : head_keyword h ≡ told (keyword_of it) = g.keyword ∙ ap (λ xs. told (if_any Spec.Keyword.none keyword_of xs)) (behind-by g false z) in
        let o : is_own (not english) h.known ≡ own_item (not english) it = g.owned (not english) ∙ ap (if_any false (own_item (not english))) (behind-by g false z) in
        ap (λ os. fault_of (places (keep (barred english) os))) (operator-here g z)
        ∙ ap (λ (b : Bool). fault_of (places (cond b (it ∷ []) [])))
        (item-barred english it ∙ ap (λ k. bars k || own_item (not english) it) (sym k) ∙ ap (λ (b : Bool). bars (head_keyword h) || b) (sym o))
        ∙ go (bars (head_keyword h) || is_own (not english) h.known) ∙ sym (rw z refl)
      where
        go : (b : Bool) → fault_of (places (cond b (it ∷ []) [])) ≡ then_some b h.op.at
        go true = refl
        go false = refl

    both-faults : lower h.fault (then_some wrong h.op.at) ≡ fault_of (operator_faults english x)
    unfolding operator_faults
    both-faults =
        ap (λ f. lower f (then_some wrong h.op.at)) g.fault_is
        ∙ ap (lower (fault_of (places (keep (λ i. not (is_name i)) (front x))))) (sym (own_fault (stops h.op.sort) refl))
        ∙ sym (fault-both (places (keep (λ i. not (is_name i)) (front x))) (places (keep (barred english) (operator x))))

    pub operator-told : {b : Bool} {f r : Fault} → b ≡ wrong → f ≡ then_some b h.op.at → r ≡ lower h.fault f → r ≡ fault_of (operator_faults english x)
    operator-told e f q = q ∙ ap (lower h.fault) (f ∙ ap (λ (b : Bool). then_some b h.op.at) e) ∙ both-faults

  -- 08
  abbrev asked : List Item → List ℕ
  asked ls = cond (filled ls) (places (drop 1 ls)) (places (operator x))

  by-head : (b : Bool) → is_switch (head_keyword h) ≡ b → (ls : List Item) → label_faults ls x ≡ cond b (asked ls) []
  unfolding label_faults
  by-head b e ls = by-switch (asked ls) (keyword_in x) ∙ ap (λ (c : Bool). cond c (asked ls) []) (ap is_switch (sym g.keyword) ∙ e)

  pub no_switch : is_switch (head_keyword h) ≡ false → (ls : List Item) → None ≡ fault_of (label_faults ls x)
  no_switch e ls = sym (ap fault_of (by-head false e ls))

  module _ (e : is_switch (head_keyword h) ≡ true) where
    operator_of : (b : Bool) → stops h.op.sort ≡ b → places (operator x) ≡ h.op.at ∷ []
    operator_of true z = absurd (true≢false (sym e ∙ ap is_switch (no-keyword g z)))
    operator_of false z = ap places (operator-here g z)

    -- the switch has no label
    pub no_label : (ms : List ℕ) → length ms ≡ 0 → (ls : List Item) → map mark ls ≡ ms → Some h.op.at ≡ fault_of (label_faults ls x)
    unfolding lowest
    no_label ms q [] m = sym (ap fault_of (by-head true e [] ∙ operator_of (stops h.op.sort) refl))
    no_label ms q (l ∷ ls) m = absurd (omega (arith, ap length m, q))

    -- those in excess
    pub labels-over : (ms : List ℕ) → (length ms ≡ 0 → ⊥) → {r : Fault} → r ≡ fault_of (map place_by (take (length ms - 1) (drop 1 ms)))
        → (ls : List Item) → map mark ls ≡ ms → Each (λ l. length l.chars ≤ limit.item) ls → r ≡ fault_of (label_faults ls x)
    labels-over ms q f [] m s = absurd (q (sym (ap length m)))
    labels-over ms q f (l ∷ ls) m s =
        let size : length (map mark (l ∷ ls)) - 1 ≡ length (map mark ls) = omega arith in
        let later : take (length (map mark (l ∷ ls)) - 1) (map mark ls) ≡ map mark ls = rw size (take-length (map mark ls)) in
        f
        ∙ ap (λ (xs : List ℕ). fault_of (map place_by (take (length xs - 1) (drop 1 xs)))) (sym m)
        ∙ ap (λ (xs : List ℕ). fault_of (map place_by xs)) later
        ∙ ap fault_of (places-back ls s.1)
        ∙ sym (ap fault_of (by-head true e (l ∷ ls)))
