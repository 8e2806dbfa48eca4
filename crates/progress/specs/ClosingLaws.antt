-- Question 25 of a statement by its head, and of the whole text.
use Rattle.std.specs.Prelude.{◌≡◌, Bool, true, false, ◌&&◌, ◌||◌, List, [], ◌∷◌, ◌++◌, ℕ, eqb, length, take}
use Rattle.std.proofs.Math.Path.{refl, sym, ap, subst}
use Rattle.std.proofs.Common.{◌∙◌, arith, ne_eqb}
use Rattle.std.proofs.Math.Bool.{cond, not}
use Rattle.std.proofs.lemmas.List.{map-append}
use Rattle.declaring.specs.TabledLaws.{operated}
use Rattle.statements.specs.Faults.{lower}
use Rattle.statements.specs.FaultLaws.{fault-both}
use Rattle.headings.specs.Headings.{is_kons, is_konp, name_by, AfterTold}
use Rattle.headings.specs.HeadingLaws.{fault-one, kons-told, konp-told}
use Rattle.headings.specs.Below.Heads.{head_keyword, Headed}
use Rattle.headings.specs.Below.Head.{Head}
use Rattle.lexer.specs.Tokens.{item_of}
use Rattle.lists.specs.Lists.{filled, bytes_equal}
use Rattle.statements.specs.StatementAt.{statement_at, stops, fault_of}
use Rattle.statements.specs.Faults.{Fault}
use Rattle.std.specs.Prelude.{Option, None, Some}
use Rattle.syntax.specs.Ending.{end_faults, absent}
use Rattle.syntax.specs.Items.{Item, places}
use Rattle.syntax.specs.Statements.{same_keyword, operator, operator_at, keyword_in, rest, one_name}
use Rattle.syntax.specs.Statements.Keyword.{KONP}
use Rattle.syntax.specs.Tables as spec
use Rattle.syntax.specs.Tables.{closing_faults, closing_after}
use Rattle.progress.specs.Closing.{TellsClosing, fault_by, Closed, unended, Ends}
use Rattle.progress.specs.declared.Closing.{Closing}

-- two rows of places, by what is at fault in each
fault-next : (xs ys : List ℕ) (a b : Fault) {r : Fault} → fault_of xs ≡ a → fault_of ys ≡ b → r ≡ lower a b → fault_of (xs ++ ys) ≡ r
fault-next xs ys a b e f g =
    fault-both xs ys ∙ ap (λ (c : Fault). lower c (fault_of ys)) e ∙ ap (λ (c : Fault). lower a c) f ∙ sym g

fault-places : (ls js : List Item) (a b : Fault) {r : Fault} → fault_of (places ls) ≡ a → fault_of (places js) ≡ b → r ≡ lower a b
    → fault_of (places (ls ++ js)) ≡ r
fault-places ls js a b e f g = ap fault_of (map-append (λ (i : Item). i.at) ls js) ∙ fault-next (places ls) (places js) a b e f g

-- ---- a statement

module _ {s : List ℕ} {n : ℕ} {h : Head} (g : Headed s n h) (section : Option ℕ) where
  abbrev x : List Item
  x = statement_at s n

  abbrev name : List ℕ
  name = name_by s section

  operator-told : filled (operator x) ≡ not (stops h.op.sort)
  operator-told = ap (λ (ys : List Item). filled (take 1 ys)) g.operator ∙ go (stops h.op.sort)
    where
      go : (b : Bool) → filled (take 1 (cond b [] (item_of s h.op ∷ statement_at s h.op.next))) ≡ not b
      go true = refl
      go false = refl

  module _ (z : stops h.op.sort ≡ false) where
    operator-place : places (operator x) ≡ h.op.at ∷ []
    operator-place = ap places (operated g z).operator_is

    module _ {labels after : Fault} (told : AfterTold s n section after) {c : Closing} {k : spec.Closing} (t : TellsClosing k c) (ls : List Item) (f : fault_of (places ls) ≡ labels) where
      here : fault_of (places (ls ++ operator x)) ≡ lower labels (Some h.op.at)
      here = fault-places ls (operator x) labels (Some h.op.at) f (ap fault_of operator-place ∙ sym (fault-one h.op.at)) refl

      -- by what was met and the keyword
      ways : (a b d e : Bool) → is_konp (head_keyword h) ≡ b → is_kons (head_keyword h) ≡ e
          → fault_of
          (cond a (places (ls ++ operator x))
          (cond b (places ls ++ one_name (bytes_equal name) (operator_at x) (rest x)) (cond d (places (ls ++ operator x)) (cond e (places (ls ++ rest x)) []))))
          ≡ cond a (lower labels (Some h.op.at)) (cond b (lower labels after) (cond d (lower labels (Some h.op.at)) (cond e (lower labels after) None)))
      ways true b d e u v = here
      ways false true d e u v =
          fault-next (places ls) (one_name (bytes_equal name) (operator_at x) (rest x)) labels after f (sym (told ∙ rw (konp-told g ∙ u) refl)) refl
      ways false false true e u v = here
      ways false false false true u v = fault-places ls (rest x) labels after f (sym (told ∙ rw (konp-told g ∙ u, kons-told g ∙ v) refl)) refl
      ways false false false false u v = refl

      fault-told : fault_of (closing_faults name k ls x) ≡ fault_by h labels after c
      unfolding closing_faults
      fault-told = rw (z, t.konp_is, konp-told g, t.kons_is, kons-told g) (ways c.konp (is_konp (head_keyword h)) c.kons (is_kons (head_keyword h)) refl refl)

  -- what is known after it
  pub labels-only : {c : Closing} {labels : Fault} → stops h.op.sort ≡ true → Closed s n section labels c c
  labels-only {c} z k t ls f = subst (λ (b : Bool). TellsClosing (cond b (closing_after name k ls x) k) c) (sym (operator-told ∙ ap not z)) t

  module _ (z : stops h.op.sort ≡ false) {labels after : Fault} (told : AfterTold s n section after) {c : Closing} {kons konp : Bool} {e f early fault : Fault} where
    pub closes : kons ≡ is_kons (head_keyword h) → konp ≡ is_konp (head_keyword h)
        → e ≡ fault_of (cond (konp && not (c.konp || c.kons)) (h.op.at ∷ []) []) → early ≡ lower c.early e
        → f ≡ fault_by h labels after c → fault ≡ lower c.fault f
        → Closed s n section labels c (record { kons = c.kons || kons; konp = c.konp || konp; early = early; fault = fault })
    unfolding closing_after
    closes a b u v w y k t ls l =
        let r : Closing = record { kons = c.kons || kons; konp = c.konp || konp; early = early; fault = fault } in
        subst (λ (i : Bool). TellsClosing (cond i (closing_after name k ls x) k) r) (sym (operator-told ∙ ap not z))
        (record {
          kons_is = rw (t.kons_is, kons-told g ∙ sym a) refl;
          konp_is = rw (t.konp_is, konp-told g ∙ sym b) refl;
          early_is = fault-next k.early _ c.early e t.early_is (early-here ∙ sym u) v;
          fault_is = fault-next k.faults _ c.fault f t.fault_is (fault-told z told t ls l ∙ sym w) y;
        })
      where
        early-here : fault_of (cond (same_keyword KONP (keyword_in x) && not (k.after_KONP || k.after_KONS)) (places (operator x)) [])
            ≡ fault_of (cond (konp && not (c.konp || c.kons)) (h.op.at ∷ []) [])
        early-here = rw (operator-place z, konp-told g ∙ sym b, t.konp_is, t.kons_is) refl

-- ---- the whole text

filled-length : {X : Type 0} (xs : List X) → filled xs ≡ not (eqb (length xs) 0)
filled-length [] = refl
filled-length (x ∷ xs) = sym (ap not (ne_eqb (length (x ∷ xs)) 0 (λ e. omega (arith, e))))

module _ (last : ℕ) where
  absent-is : (b : Bool) → fault_of (absent (not b) last) ≡ fault_of (cond b (last ∷ []) [])
  absent-is true = refl
  absent-is false = refl

  absent-not : (b : Bool) → fault_of (absent b last) ≡ fault_of (cond (not b) (last ∷ []) [])
  absent-not true = refl
  absent-not false = refl

  order_is : (b : Bool) (ps : List ℕ) (early : Fault) → fault_of ps ≡ early
      → fault_of (cond b ps (last ∷ [])) ≡ cond b early (fault_of (last ∷ []))
  order_is true ps early e = e
  order_is false ps early e = refl

  module _ {c : Closing} {instructions : ℕ} {ended waiting order missing empty f₁ f₂ f₃ f₄ r : Fault} where
    pub ends : order ≡ cond c.kons c.early (fault_of (last ∷ [])) → f₁ ≡ lower c.fault order
        → missing ≡ fault_of (cond (not c.konp) (last ∷ []) []) → f₂ ≡ lower f₁ missing
        → empty ≡ fault_of (cond (eqb instructions 0) (last ∷ []) []) → f₃ ≡ lower f₂ empty
        → f₄ ≡ lower f₃ ended → r ≡ lower f₄ waiting → Ends last c instructions ended waiting r
    unfolding end_faults
    ends o e₁ m e₂ n e₃ e₄ e₅ d t l u w =
        let code = d.tables.code in
        let k = d.closing in
        let p₀ = cond k.after_KONS k.early (last ∷ []) in
        let p₁ = k.faults ++ p₀ in
        let p₂ = p₁ ++ absent k.after_KONP last in
        let p₃ = p₂ ++ absent (filled code) last in
        let p₄ = p₃ ++ unended code in
        let kons = ap (λ (i : Bool). fault_of (cond i k.early (last ∷ []))) t.kons_is ∙ order_is c.kons k.early c.early t.early_is ∙ sym o in
        let konp = ap (λ (i : Bool). fault_of (absent i last)) t.konp_is ∙ absent-not c.konp ∙ sym m in
        let none = ap (λ (i : Bool). fault_of (absent i last)) (filled-length code) ∙ absent-is (eqb (length code) 0)
        ∙ ap (λ (j : ℕ). fault_of (cond (eqb j 0) (last ∷ []) [])) l ∙ sym n in
        let g₁ : fault_of p₁ ≡ f₁ = fault-next k.faults p₀ c.fault order t.fault_is kons e₁ in
        let g₂ : fault_of p₂ ≡ f₂ = fault-next p₁ (absent k.after_KONP last) f₁ missing g₁ konp e₂ in
        let g₃ : fault_of p₃ ≡ f₃ = fault-next p₂ (absent (filled code) last) f₂ empty g₂ none e₃ in
        let g₄ : fault_of p₄ ≡ f₄ = fault-next p₃ (unended code) f₃ ended g₃ u e₄ in
        sym (fault-next p₄ (places d.waiting) f₄ waiting g₄ w e₅)
