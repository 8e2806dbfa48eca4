-- A definition in cells is the macro of its stretch.
use mathlib.Core.Path.{◌≡◌, refl, ap, sym, ◌∙◌, subst}
use mathlib.Core.Bool.{Bool, true, false, cond, not, ◌&&◌, true≢false, false≢true}
use mathlib.Core.List.{List, [], ◌∷◌, ◌++◌, map, append_assoc, append-nil}
use Rattle.std.specs.Prelude.{Some, None}
use Rattle.std.specs.Bool.{then_some}
use Rattle.std.proofs.lemmas.Option.{none-some, same_Some}
use Prim.Native.Nat.{ℕ, zero, suc, ◌+◌, ◌-◌, ◌≤◌, ◌<◌}
use native.Mathlib.Nat.{le_refl}
use native.Mathlib.Omega.{arith}
use lib.Dec.{ltb}
use lib.ListN.{length, take, drop}
use borrow.Author.Tests.{ne_eqb, lt-ltb, ltb-true}
use Rattle.statements.specs.LowerLaws.{lower-right}
use Rattle.layout.specs.Cells.{tab}
use Rattle.lists.specs.Lists.{any, filled, if_any}
use Rattle.std.specs.Prelude.{None, Some}
use Rattle.statements.specs.Faults.{lower}
use Rattle.statements.specs.FaultLaws.{fault-both}
use Rattle.statements.specs.StatementAt.{fault_of}
use Rattle.macros.specs.Elements as spec
use Rattle.macros.specs.Elements.{is_open, is_close, is_bracket, places_in, until, from}
use Rattle.macros.specs.Macros.{Macro, header_words, header_faults, body_of, body_start, body_stop, macro_of, definition_faults}
use Rattle.macros.specs.Pieces.{changes, form_faults, is_misplaced, pieces_from}
use Rattle.macro_code.specs.Code.{bytes_at, macro_in}
use Rattle.macro_changes.specs.Changing.{parameters_of, inside, behind, stop_of, changes_of, wrong_in}
use Rattle.macro_changes.specs.Changing.{Scope}
use Rattle.macro_changes.proofs.Cells.{tab-cong, kept_on, kept-below, kept-agree, bytes-agree}
use Rattle.macro_changes.proofs.Giving.{first_forward}
use Rattle.macro_elements.specs.ElementAt.{elements_from, argument_value, FirstElement}
use Rattle.macro_elements.specs.declared.Element.{Element}
use Rattle.macro_reading.specs.Bodies.{Bodied, BodyRead}
use Rattle.macro_reading.specs.Headers.{word_cell, heading, words_in, HeaderRead}
use Rattle.macro_reading.specs.Definitions.{OpenAt, NextOpen, stretch, Definable, Defining, Defined}
use Rattle.macro_reading.specs.declared.Definition.{Definition}
use Rattle.macro_reading.specs.declared.Body.{Body}
use Rattle.macro_reading.specs.declared.Header.{Header}
use Rattle.macro_reading.proofs.Heading.{whole-from}
use Rattle.macro_reading.proofs.Stretching.{Opened, opened, unopened, until-stretch, from-stretch, any_found}

none_left : (ts : List spec.Element) → filled ts ≡ false → filled (drop 1 ts) ≡ true → ⊥
none_left [] e h = false≢true h
none_left (t ∷ ts) e h = true≢false e

-- the words of a header in cells
tab-rest : {X : Type 0} (k : ℕ) (f : ℕ → X) → drop 1 (tab k f) ≡ tab (k - 1) (λ j. f (suc j))
unfolding tab
tab-rest zero f = refl
tab-rest (suc k) f = let e : suc k - 1 ≡ k = omega arith in sym (ap (λ (j : ℕ). tab j (λ i. f (suc i))) e)

tab-one : {X : Type 0} (k : ℕ) (f : ℕ → X) → take 1 (tab k f) ≡ cond (ltb 0 k) (f zero ∷ []) []
unfolding tab
tab-one zero f = refl
tab-one (suc k) f = sym (ap (λ (b : Bool). cond b (f zero ∷ []) []) (lt-ltb 0 (suc k) (omega arith)))

tab-filled : {X : Type 0} (k : ℕ) (f : ℕ → X) → filled (tab k f) ≡ ltb 0 k
unfolding tab
tab-filled zero f = refl
tab-filled (suc k) f = sym (lt-ltb 0 (suc k) (omega arith))

-- an opening bracket, or none
pub open-if : {s : List ℕ} {n : ℕ} {t : Element} → FirstElement s n t → (b : Bool) → b ≡ is_open (argument_value s t) → NextOpen s n (then_some b t)
open-if {s} {n} {t} k true h =
    record { none = λ e. absurd (none-some t (sym e)); some = λ x e. subst (λ (u : Element). OpenAt s n u) (same_Some t x e) (record { first = k; opens = sym h }) }
open-if k false h = record { none = λ e. ap (λ (ts : List spec.Element). if_any false is_open ts) k.is ∙ sym h; some = λ x e. absurd (none-some x e) }

module _ {s m c : List ℕ} {n q : ℕ} (p : Definable s m c n q) where
  module _ {d : List ℕ} {h : Header} (g : HeaderRead s c d n q h) where
    abbrev us : List spec.Element
    us = elements_from s n

    from_is : from is_bracket us ≡ elements_from s h.passed.next
    from_is = sym g.heads.rest ∙ whole-from is_bracket (elements_from s h.passed.next) g.done

    -- no bracket opens a body
    pub not-defined : if_any false is_open (elements_from s h.passed.next) ≡ false → Defined s c d n q None
    not-defined o =
        record {
          kept = g.heads.kept;
          opened_is = sym (unopened us (ap (λ (ts : List spec.Element). if_any false is_open ts) from_is ∙ o)).bodiless_is;
          defining = λ x e. absurd (none-some x e);
        }

    module _ {b : Element} (k : OpenAt s h.passed.next b) where
      abbrev v : spec.Element
      v = argument_value s b

      abbrev rs : List spec.Element
      rs = elements_from s b.next

      op : Opened us v rs
      op = opened us v rs (from_is ∙ k.first.is) k.opens

      pub forward : h.passed.next < b.next
      forward = first_forward k.first

      abbrev X : Scope
      X = Some (record { first = q + 3; count = h.words - 1 })

      pub bodied : Bodied s m d X q (b.at + 1) b.next
      bodied =
          let y = k.first.more in
          record {
            params_at = refl;
            reading =
                record {
                  lent = record { copy = p.lent.copy; size = p.lent.size; most = k.first.held.most };
                  few = omega (arith, g.heads.from, g.heads.most, p.lent.size);
                  scoped = le_refl (q + 3 + (h.words - 1));
                  room = omega (arith, forward, g.heads.from, p.paid, p.room, p.lent.size, g.heads.kept.size);
                  wide = omega (arith, p.wide, g.heads.kept.size);
                };
            starts = omega (arith, k.first.held.most);
          }

      abbrev W : List (List ℕ)
      W = tab h.words (λ j. bytes_at s d (word_cell q j))

      words_are : header_words (stretch us) ≡ W
      words_are =
          ap (λ (ts : List spec.Element). words_in ts) op.header_is
          ∙ sym (sym (append-nil W) ∙ ap (λ (ts : List spec.Element). W ++ words_in ts) (sym g.done) ∙ g.heads.words_are)

      parameters-are : drop 1 (header_words (stretch us)) ≡ parameters_of s d X
      parameters-are =
          ap (drop 1) words_are
          ∙ tab-rest h.words (λ j. bytes_at s d (word_cell q j))
          ∙ tab-cong (h.words - 1) (λ j. bytes_at s d (word_cell q (suc j))) (λ j. bytes_at s d (q + 3 + j)) (λ j l. let e : word_cell q (suc j) ≡ q + 3 + j = rw (ne_eqb (suc j) 0 (λ y. omega arith)) (omega arith) in ap (bytes_at s d) e)

      name-is : take 1 (header_words (stretch us)) ≡ cond (ltb 0 h.words) (bytes_at s d q ∷ []) []
      name-is = ap (take 1) words_are ∙ tab-one h.words (λ j. bytes_at s d (word_cell q j))

      body-from : drop 1 (from is_open (stretch us)) ≡ stretch rs
      body-from = ap (drop 1) op.body_is

      body-are : body_of (stretch us) ≡ inside s true b.next
      body-are = ap (until is_close) body-from ∙ until-stretch rs

      start_is : body_start (stretch us) ≡ b.at + 1
      start_is = ap (λ (ts : List spec.Element). if_any 0 (λ t. t.at + 1) ts) op.body_is

      stop_is : body_stop (length s) (stretch us) ≡ stop_of s true b.next
      stop_is = ap (λ (ts : List spec.Element). if_any (length s) (λ t. t.at) ts) (ap (from is_close) body-from ∙ from-stretch rs) ∙ go (from is_close rs)
        where
          go : (ts : List spec.Element) → if_any (length s) (λ t. t.at) (take 1 ts) ≡ if_any (length s) (λ t. t.at) ts
          go [] = refl
          go (t ∷ ts) = refl

      module _ {e : List ℕ} {r : Body} (y : BodyRead s d e X q (b.at + 1) b.next r) where
        abbrev named : Bool
        named = ltb 0 h.words

        closed_is : any is_close (drop 1 (from is_open (stretch us))) ≡ r.closed
        closed_is = ap (any is_close) body-from ∙ any_found is_close (stretch rs) ∙ ap filled (from-stretch rs) ∙ go (from is_close rs) ∙ sym y.closed_is
          where
            go : (ts : List spec.Element) → filled (take 1 ts) ≡ filled ts
            go [] = refl
            go (t ∷ ts) = refl

        macro-there : macro_in s e q ≡ record { name = bytes_at s d q; params = parameters_of s d X; body = pieces_from s (b.at + 1) (stop_of s true b.next) (changes (parameters_of s d X) (stop_of s true b.next) (inside s true b.next)) }
        unfolding macro_in changes_of
        macro-there =
            let a = bytes-agree (kept-agree y.kept) s q (omega arith) (omega arith) in
            let f = ap (λ (j : ℕ). tab j (λ i. bytes_at s e (q + 3 + i))) y.count_is ∙ y.names in
            let w = y.body_is in
            λ i. record { name = a i; params = f i; body = w i }

        macro-done : macro_of s (stretch us) ≡ cond named (macro_in s e q ∷ []) []
        unfolding macro_of
        macro-done =
            (λ i. map (λ (w : List ℕ). record { name = w; params = parameters-are i; body = pieces_from s (start_is i) (stop_is i) (changes (parameters-are i) (stop_is i) (body-are i)) }) (name-is i))
            ∙ go named
          where
            go : (z : Bool)
                → map (λ (w : List ℕ). record { name = w; params = parameters_of s d X; body = pieces_from s (b.at + 1) (stop_of s true b.next) (changes (parameters_of s d X) (stop_of s true b.next) (inside s true b.next)) }) (cond z (bytes_at s d q ∷ []) [])
                ≡ cond z (macro_in s e q ∷ []) []
            go true = sym (ap (λ (m : Macro). m ∷ []) macro-there)
            go false = refl

        turned : (z : Bool) → fault_of (cond (not z) (b.at ∷ []) []) ≡ fault_of (cond z [] (b.at ∷ []))
        turned true = refl
        turned false = refl

        faults-done : lower h.passed.fault (lower (fault_of (cond (not (named && r.closed)) (b.at ∷ []) [])) r.passed.fault) ≡ fault_of (definition_faults (stretch us))
        unfolding definition_faults wrong_in
        faults-done =
            let ps = parameters_of s d X in
            let two = cond (named && r.closed) [] (b.at ∷ []) in
            let three = form_faults (is_misplaced ps) ps (inside s true b.next) in
            let one = header_faults (heading s n) in
            (λ i. lower (head-fault i) (lower (turned (named && r.closed) i) (y.fault_is i)))
            ∙ ap (lower (fault_of one)) (sym (fault-both two three))
            ∙ sym (fault-both one (two ++ three))
            ∙ ap fault_of (sym (append_assoc one two three))
            ∙ sym (λ i. fault_of ((header_faults (op.header_is i) ++ cond (filled_is i && closed_is i) [] (places_in (take 1 (op.body_is i)))) ++ form_faults (is_misplaced (parameters-are i)) (parameters-are i) (body-are i)))
          where
            head-fault : h.passed.fault ≡ fault_of (header_faults (heading s n))
            head-fault = sym (lower-right h.passed.fault) ∙ ap (λ (ts : List spec.Element). lower h.passed.fault (fault_of (header_faults ts))) (sym g.done) ∙ g.heads.faults

            filled_is : filled (header_words (stretch us)) ≡ named
            filled_is = ap filled words_are ∙ tab-filled h.words (λ j. bytes_at s d (word_cell q j))

        extra : (z : Bool) → 0 ≤ cond z 2 0
        extra z = omega arith

        after_open : b.next ≤ r.passed.next
        after_open = go r.closed y.from
          where
            go : (z : Bool) → b.next + cond z 1 0 ≤ r.passed.next → b.next ≤ r.passed.next
            go true l = omega arith
            go false l = omega arith

        -- where something follows, the body is closed
        more-there : 0 < h.words → filled (elements_from s r.passed.next) ≡ true → n + 3 ≤ r.passed.next
        more-there x c = go r.closed refl y.from
          where
            go : (z : Bool) → r.closed ≡ z → b.next + cond z 1 0 ≤ r.passed.next → n + 3 ≤ r.passed.next
            go true e w = omega (arith, forward, g.heads.from)
            go false e w = absurd (none_left (behind s true b.next) (sym y.closed_is ∙ e) (sym (ap filled y.rest) ∙ c))

        steps : (z : Bool) → ltb 0 h.words ≡ z → n + cond z 2 1 ≤ r.passed.next
        steps true e = let l : 0 < h.words = ltb-true 0 h.words e in omega (arith, forward, g.heads.from, after_open)
        steps false e = omega (arith, forward, g.heads.from, after_open)

        abbrev whole_by : Bool → Definition
        whole_by z = record { passed = record { next = r.passed.next; fault = lower h.passed.fault (lower (fault_of (cond (not (named && r.closed)) (b.at ∷ []) [])) r.passed.fault) }; used = then_some z r.used }

        macro-by : (z : Bool) → named ≡ z → macro_of s (stretch us) ≡ cond z (macro_in s e q ∷ []) []
        macro-by z w = macro-done ∙ ap (λ (a : Bool). cond a (macro_in s e q ∷ []) []) w

        defining_by : (z : Bool) → named ≡ z → Defining s e n q (whole_by z)
        defining_by true w =
            let l : 0 < h.words = ltb-true 0 h.words w in
            record {
              macro_is = macro-by true w;
              fault_is = faults-done;
              rest = y.rest ∙ ap (drop 1) (sym op.rest_is);
              from_here = steps true w;
              closed_more = λ o c. more-there l c;
              most = y.most;
              paid = λ u o. let x : r.used ≡ u = same_Some r.used u o in omega (arith, x, l, y.room, p.paid, forward, g.heads.from, extra r.closed);
              low = λ u o. let x : r.used ≡ u = same_Some r.used u o in omega (arith, x, y.low);
              used_is = λ u o. y.used_is ∙ same_Some r.used u o;
            }
        defining_by false w =
            record {
              macro_is = macro-by false w;
              fault_is = faults-done;
              rest = y.rest ∙ ap (drop 1) (sym op.rest_is);
              from_here = steps false w;
              closed_more = λ o c. absurd (false≢true o);
              most = y.most;
              paid = λ u o. absurd (none-some u o);
              low = λ u o. absurd (none-some u o);
              used_is = λ u o. absurd (none-some u o);
            }

        abbrev whole : Definition
        whole = whole_by named

        pub definition-done : Defined s c e n q (Some whole)
        definition-done =
            record {
              kept = kept_on g.heads.kept (kept-below y.kept (omega arith)) (le_refl q);
              opened_is = sym (any_found is_open (stretch us) ∙ ap filled op.body_is);
              defining = λ x z. subst (λ (u : Definition). Defining s e n q u) (same_Some whole x z) (defining_by named refl);
            }
