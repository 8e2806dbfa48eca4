-- The items after an instruction's operator, one by one: what is at fault among them.
use Rattle.std.specs.Prelude.{◌≡◌, ◌||◌, ◌≤◌, ℕ, suc, leb, ltb, eqb, length, drop}
use Rattle.std.proofs.Math.Path.{refl, ap}
use Rattle.std.proofs.Common.{sym, ◌∙◌, subst, true≢false, arith, le→leb}
use Rattle.std.proofs.Math.Bool.{Bool, true, false, cond}
use mathlib.Core.List.{List, [], ◌∷◌, ◌++◌, map, append_assoc, append-nil}
use Rattle.std.proofs.Math.Dec.{T}
use borrow.Author.Tests.{eq-eqb, ne_eqb, eqb-true, eqb-false}
use Rattle.forms.specs.declared.Live.{Live}
use Rattle.forms.specs.Kinds.{word_kinds, item_kinds}
use Rattle.forms.specs.KindLaws.{text-kinds, word_kinds-of}
use Rattle.forms.specs.Reading.{Reads, lists_at, taken_at}
use Rattle.forms.specs.ReadingLaws.{argument-read, lists-first}
use Rattle.heads.specs.declared.Head.{Head}
use Rattle.heads.specs.Heads.{Headed}
use Rattle.heads.specs.HeadLaws.{operator-here, rest-here}
use Rattle.language.specs.Instructions.{operation}
use Rattle.language.specs.Program.{Op}
use Rattle.lexer.specs.declared.Token.{Token}
use Rattle.std.specs.Option.{option_to_list}
use Rattle.scanner.specs.Sorts.{sort_in}
use Rattle.scanner.specs.declared.Sort.{Sort}
use Rattle.lexer.specs.Tokens.{ColonWithin, word_of, chars_of, item_of, colon_of, Stands, NextToken}
use Rattle.lexer.proofs.Finding.{is_spelled, one_sort, word-chars, no-chars}
use Rattle.lists.specs.Lists.{filled, keep}
use Rattle.lists.specs.ListLaws.{T-left, T-right, T-both, all_head, all_tail, all_cons, all_keep}
use Rattle.statements.specs.LowestLaws.{none-before-both, fault-first, fault-within}
use Rattle.statements.specs.Faults.{Fault}
use Rattle.std.specs.Prelude.{Option, None, Some, Ok, Err}
use Rattle.statements.specs.PlaceLaws.{statement-from, places-from}
use Rattle.statements.specs.Places.{none_before, stands_from, all_from}
use Rattle.statements.specs.StatementAt.{statement_at, stops, fault_of}
use Rattle.statements.specs.StatementLaws.{at-stop, at_item}
use Rattle.syntax.specs.ArgumentForms.{accepting, form_in, word_reads, Argument, alternatives, arguments_in, arguments, read_by, of_form, least}
use Rattle.syntax.specs.Items.{Item, is, same_sort, places}
use Rattle.syntax.specs.Items.Sort.{word, colon, text}
use Rattle.syntax.specs.Questions.{instr_faults}
use Rattle.arguments.specs.Arguments.{colons, read_from, argument_faults, instr_after, or_colon, accepted}
use Rattle.arguments.specs.CountLaws.{is_argument}

-- the items of arguments that are read
pub items-read : (alts : List (List (List ℕ))) (xs : List Item) → map (λ a. a.item) (read_by alts xs) ≡ xs
unfolding read_by
items-read alts [] = refl
items-read alts (x ∷ xs) = ap (◌∷◌ x) (items-read (map (drop 1) (cond (filled (accepting x alts)) (accepting x alts) alts)) xs)

-- none of these faults stands before the items
module _ (p : ℕ) where
  colons-from : (js : List Item) → T (all_from p js) → T (none_before p (colons js))
  unfolding colons
  colons-from [] h = tt
  colons-from (j ∷ js) h =
      let f = all_head (stands_from p) j js h in
      none-before-both p (cond (is colon j) (j.at ∷ []) j.colon) (colons js)
      (elim (is colon j) as (λ b. T (none_before p (cond b (j.at ∷ []) j.colon))) [
        | true ↦ T-both (leb p j.at) true (T-left (leb p j.at) (none_before p j.colon) f) tt
        | false ↦ T-right (leb p j.at) (none_before p j.colon) f
      ])
      (colons-from js (all_tail (stands_from p) j js h))

  kept_from : (ws : List Argument) → T (all_from p (map (λ a. a.item) ws)) → T (all_from p (of_form "-" ws))
  kept_from [] h = tt
  kept_from (w ∷ ws) h =
      let k = kept_from ws (all_tail (stands_from p) w.item (map (λ a. a.item) ws) h) in
      elim (form_in "-" w.form) as (λ b. T (all_from p (map (λ a. a.item) (cond b (w ∷ keep (λ a. form_in "-" a.form) ws) (keep (λ a. form_in "-" a.form) ws))))) [
        | true ↦ all_cons (stands_from p) w.item (of_form "-" ws) (all_head (stands_from p) w.item (map (λ a. a.item) ws) h) k
        | false ↦ k
      ]

  forms-from : (alts : List (List (List ℕ))) (js : List Item) → T (all_from p js) → T (none_before p (places (of_form "-" (read_by alts (arguments_in js)))))
  forms-from alts js h =
      places-from p (of_form "-" (read_by alts (arguments_in js)))
      (kept_from (read_by alts (arguments_in js)) (rw (items-read alts (arguments_in js)) (all_keep (stands_from p) is_argument js h)))

  faults-from : (o : Op) (live : Live) (place : ℕ) (js : List Item) → T (all_from p js) → T (none_before p (argument_faults o live place js))
  unfolding argument_faults
  faults-from o live place js h =
      none-before-both p (colons js) (places (of_form "-" (read_from o live place js))) (colons-from js h) (forms-from (lists_at o live place) js h)

-- the turn of a token that is no end
colon-above : (at e m : ℕ) → at ≤ e → (z : Option ℕ) → ColonWithin e m z → T (none_before at (option_to_list z))
colon-above at e m h None w = tt
colon-above at e m h (Some c) w = T-both (leb at c) true (le→leb at c (omega (arith, h, w.0))) tt

pub colon-behind : {s : List ℕ} {t : Token} → Stands s t → T (none_before t.at (colon_of t))
colon-behind {s} {t} h = colon-above t.at t.end t.next (omega (arith, h.own)) t.colon h.colon_within

within-most : (e m : ℕ) {c : ℕ} {z : Option ℕ} → ColonWithin e m z → z ≡ Some c → c ≤ m
within-most e m w q = (subst (ColonWithin e m) q w).1

module _ (o : Op) (live : Live) (place : ℕ) {s : List ℕ} {n : ℕ} {t : Token} (k : NextToken s n t) where
  pub items-end : stops t.sort ≡ true → fault_of (argument_faults o live place (statement_at s n)) ≡ None
  unfolding argument_faults colons read_by
  items-end z = ap (λ js. fault_of (argument_faults o live place js)) (at-stop k z)

  module _ (z : stops t.sort ≡ false) where
    abbrev i : Item
    i = item_of s t

    abbrev js : List Item
    js = statement_at s t.next

    from_here : T (all_from t.at js)
    from_here = statement-from s t.next t.at (omega (arith, k.stands.own, k.stands.behind))

    pub colon-here : is colon i ≡ true → fault_of (argument_faults o live place (statement_at s n)) ≡ Some t.at
    unfolding argument_faults colons
    colon-here e =
        let f : argument_faults o live place (statement_at s n) ≡ t.at ∷ argument_faults o live place js = rw (at_item k z, e) in
        ap fault_of f ∙ fault-first t.at (argument_faults o live place js) (faults-from t.at o live place js from_here)

    module _ (e : is colon i ≡ false) (b : Reads) (q : b ≡ taken_at (operation o).number live place (item_kinds i)) where
      abbrev later : List ℕ
      later = places (of_form "-" (read_from o b.live (suc place) js))

      turn : argument_faults o live place (statement_at s n) ≡ (colon_of t ++ colons js) ++ cond (eqb b.form 45) (t.at ∷ later) later
      unfolding argument_faults colons
      turn =
          ap (argument_faults o live place) (at_item k z)
          ∙ rw (e, argument-read i o place live (arguments_in js), ← q)
          (elim (eqb b.form 45) as (λ c. (colon_of t ++ colons js) ++ places (map (λ x. x.item) (cond (c || false) (record { item = i; form = b.form } ∷ keep (λ x. form_in "-" x.form) (read_from o b.live (suc place) js)) (keep (λ x. form_in "-" x.form) (read_from o b.live (suc place) js))))
          ≡ (colon_of t ++ colons js) ++ cond c (t.at ∷ later) later) [ true ↦ refl | false ↦ refl ])

      pub unlisted-here : b.form ≡ 45 → fault_of (argument_faults o live place (statement_at s n)) ≡ Some t.at
      unlisted-here f =
          ap fault_of (rw (eq-eqb b.form 45 f) at turn)
          ∙ fault-within t.at (colon_of t ++ colons js) later
          (none-before-both t.at (colon_of t) (colons js) (colon-behind k.stands) (colons-from t.at js from_here))
          (forms-from t.at (lists_at o b.live (suc place)) js from_here)

      module _ (f : b.form ≡ 45 → ⊥) where
        goes_on : argument_faults o live place (statement_at s n) ≡ (colon_of t ++ colons js) ++ later
        goes_on = rw (ne_eqb b.form 45 f) at turn

        pub colon-after-argument : {c : ℕ} → t.colon ≡ Some c → fault_of (argument_faults o live place (statement_at s n)) ≡ Some c
        unfolding argument_faults
        colon-after-argument {c} y =
            ap fault_of (rw y at goes_on)
            ∙ fault-first c (argument_faults o b.live (suc place) js) (faults-from c o b.live (suc place) js (statement-from s t.next c (within-most t.end t.next k.stands.colon_within y)))

        pub argument_listed : t.colon ≡ None → argument_faults o live place (statement_at s n) ≡ argument_faults o b.live (suc place) (statement_at s t.next)
        unfolding argument_faults
        argument_listed y = rw y at goes_on

-- a text is no word
pub not-both : (k : Option Sort) → same_sort text (sort_in k) ≡ true → same_sort word (sort_in k) ≡ true → ⊥
not-both None f g = true≢false (sym f)
not-both (Some Sort.Word) f g = true≢false (sym f)
not-both (Some Sort.Colon) f g = true≢false (sym f)
not-both (Some Sort.End) f g = true≢false (sym f)
not-both (Some Sort.Text) f g = true≢false (sym g)
not-both (Some Sort.Wrong) f g = true≢false (sym f)

-- the set of forms that a token's item reads as
module _ (s : List ℕ) (t : Token) where
  pub kinds-text : is text (item_of s t) ≡ true → item_kinds (item_of s t) ≡ 16384
  kinds-text e = text-kinds (item_of s t) e

  module _ (e : is text (item_of s t) ≡ false) where
    no_text : item_kinds (item_of s t) ≡ word_kinds (chars_of s t)
    no_text = word_kinds-of (item_of s t) e

    pub kinds-word : is word (item_of s t) ≡ true → item_kinds (item_of s t) ≡ word_kinds (word_of s t)
    kinds-word f = no_text ∙ ap word_kinds (word-chars s t (one_sort (Some Sort.Word) t.sort f))

    unspelled : (k : Option Sort) → same_sort text (sort_in k) ≡ false → same_sort word (sort_in k) ≡ false → is_spelled k ≡ false
    unspelled None f g = refl
    unspelled (Some Sort.Word) f g = absurd (true≢false g)
    unspelled (Some Sort.Colon) f g = refl
    unspelled (Some Sort.End) f g = refl
    unspelled (Some Sort.Text) f g = absurd (true≢false f)
    unspelled (Some Sort.Wrong) f g = refl

    pub kinds-none : is word (item_of s t) ≡ false → item_kinds (item_of s t) ≡ 0
    unfolding word_kinds word_reads
    kinds-none f = no_text ∙ ap word_kinds (no-chars s t (unspelled t.sort e f))

pub turned : (live : Live) (place : ℕ) {m kinds j : ℕ} {b : Reads} → b ≡ taken_at m live place kinds → kinds ≡ j → (o : Op) → (operation o).number ≡ m → b ≡ taken_at (operation o).number live place j
turned live place e f o h = rw (e, f, h)

-- what is taken, by the answer of `accepted`
pub record TakenBy (t : Token) (b r : Reads) : Type 0 where
  pub is : r ≡ b
  pub some : r.form ≡ 45 → ⊥
  pub bare : t.colon ≡ None

module _ (t : Token) (b : Reads) where
  ok-colon : (z : Option ℕ) {r : Reads} → Ok r ≡ or_colon z b → (r ≡ b) × (z ≡ None)
  ok-colon None e = (cc, refl)
  ok-colon (Some c) e = cc

  err-colon : (z : Option ℕ) {p : ℕ} → Err p ≡ or_colon z b → z ≡ Some p
  err-colon None e = cc
  err-colon (Some c) e = cc

  ok-form : (z : Bool) → eqb b.form 45 ≡ z → {r : Reads} → Ok r ≡ cond z (Err t.at) (or_colon t.colon b) → TakenBy t b r
  ok-form true q e = cc
  ok-form false q e =
      let k = ok-colon t.colon e in
      record { is = k.0; some = λ f. eqb-false b.form 45 q (sym (ap (λ (x : Reads). x.form) k.0) ∙ f); bare = k.1 }

  pub ok-accepted : (z : Bool) {r : Reads} → Ok r ≡ accepted z t b → TakenBy t b r
  unfolding accepted
  ok-accepted true e = cc
  ok-accepted false e = ok-form (eqb b.form 45) refl e

  pub no_colon-accepted : (z : Bool) {r : Reads} → Ok r ≡ accepted z t b → z ≡ false
  unfolding accepted
  no_colon-accepted true e = cc
  no_colon-accepted false e = refl

-- and the place at fault
module _ (o : Op) (live : Live) (place : ℕ) {s : List ℕ} {n : ℕ} {t : Token} (k : NextToken s n t) (y : stops t.sort ≡ false) (b : Reads)
    (q : b ≡ taken_at (operation o).number live place (item_kinds (item_of s t))) where
  abbrev At : ℕ → Type 0
  At p = fault_of (argument_faults o live place (statement_at s n)) ≡ Some p

  err-form : {p : ℕ} → is colon (item_of s t) ≡ false → (z : Bool) → eqb b.form 45 ≡ z → Err p ≡ cond z (Err t.at) (or_colon t.colon b) → At p
  err-form c true f e = unlisted-here o live place k y c b q (eqb-true b.form 45 f) ∙ cc
  err-form c false f e = colon-after-argument o live place k y c b q (eqb-false b.form 45 f) (err-colon t b t.colon e)

  pub err-accepted : {p : ℕ} (z : Bool) → is colon (item_of s t) ≡ z → Err p ≡ accepted z t b → At p
  unfolding accepted
  err-accepted true c e = colon-here o live place k y c ∙ cc
  err-accepted false c e = err-form c (eqb b.form 45) refl e

-- 02 of an instruction: an argument is missing, or what is at fault among them
pub judged-so : {s : List ℕ} {t : Token} → Stands s t → (o : Op) {f : Fault} → fault_of (argument_faults o Live.Both 0 (statement_at s t.next)) ≡ f
    → cond (ltb (length (arguments_in (statement_at s t.next))) (least o)) (Some t.at) f ≡ fault_of (instr_after s t o)
unfolding instr_after argument_faults
judged-so {s} {t} h o {f} q =
    let js = statement_at s t.next in
    let none : T (all_from t.at js) = statement-from s t.next t.at (omega (arith, h.own, h.behind)) in
    let unlisted : List ℕ = places (of_form "-" (arguments o js)) in
    elim (ltb (length (arguments_in js)) (least o)) as (λ b. cond b (Some t.at) f ≡ fault_of (colons js ++ cond b (t.at ∷ []) [] ++ unlisted)) [
      | true ↦ sym (ap fault_of (append_assoc (colons js) (t.at ∷ []) unlisted)
          ∙ fault-within t.at (colons js) unlisted (colons-from t.at js none) (forms-from t.at (alternatives o) js none))
      | false ↦ sym q ∙ rw (← lists-first o, append-nil (colons js))
    ]

pub instr-is : {s : List ℕ} {n : ℕ} {h : Head} (g : Headed s n h) → stops h.op.sort ≡ false → (o : Op) → instr_faults (statement_at s n) o ≡ instr_after s h.op o
unfolding instr_faults instr_after colons
instr-is g z o = rw (rest-here g z, operator-here g z)
