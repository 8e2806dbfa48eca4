-- The head of a statement item by item.
use mathlib.Core.Path.{◌≡◌, refl, ap, sym, ◌∙◌}
use mathlib.Core.Bool.{Bool, true, false, cond, not, ◌&&◌, false≢true}
use mathlib.Core.List.{List, [], ◌∷◌, ◌++◌}
use Prim.Native.Nat.{ℕ, ◌≤◌, ◌<◌}
use native.Mathlib.Omega.{arith}
use lib.Dec.{eqb}
use lib.ListN.{length, take}
use borrow.Author.Tests.{eq-eqb, ne_eqb, eqb-true, eqb-false}
use Rattle.statements.specs.Checks.{item_verdict, worst, token_verdict}
use Rattle.statements.specs.CheckLaws.{token-told, worse-clear, worse_assoc}
use Rattle.statements.specs.FaultLaws.{fault-both}
use Rattle.statements.specs.Faults.{lower}
use Rattle.lists.specs.Lists.{filled, if_any, keep}
use Rattle.lexer.specs.declared.Token.{Token}
use Rattle.lexer.specs.Tokens.{item_of, NextToken}
use Rattle.statements.proofs.Ends.{Within, begins-within, still-within}
use Rattle.statements.specs.Faults.{Fault, Verdict, worse}
use Rattle.std.specs.Prelude.{Option, None, Some, Ok}
use Rattle.statements.specs.StatementAt.{statement_at, stops, fault_of}
use Rattle.statements.specs.StatementLaws.{goes, at-stop, at_item, on}
use Rattle.scanner.specs.Below.Items.{Item, is, places}
use Rattle.scanner.specs.Below.Items.Sort.{word}
use Rattle.scanner.specs.Below.Statements.{keyword_of, is_operator, front, behind, operator, keyword_in, own, is_name}
use Rattle.scanner.specs.Below.Statements as Spec
use Rattle.words.specs.declared.Known.{Known}
use Rattle.words.specs.declared.Edition.{Edition}
use Rattle.words.specs.declared.Keyword.{Keyword}
use Rattle.words.specs.Keywords.{keyword_by, told, known_by, known, keyword_known, is_own}
use Rattle.words.specs.WordLaws.{keyword-item}
use Rattle.words.proofs.KeywordLaws.{own-known}
use Rattle.heads.specs.Heads.{own_item, known_item, head_with, operates, from_token, Headed}
use Rattle.heads.specs.HeadLaws.{lower-clear, lower-assoc, front_goes, behind-goes, front_ends, behind-here, operator_is}

abbrev name_faults : List Item → List ℕ
name_faults js = places (keep (λ i. not (is_name i)) js)

-- an item in front of the operator, if it is no name
abbrev pub own_fault : Item → Fault
own_fault i = fault_of (cond (is_name i) [] (i.at ∷ []))

name_fault-goes : (i : Item) (js : List Item) → fault_of (name_faults (i ∷ js)) ≡ lower (own_fault i) (fault_of (name_faults js))
name_fault-goes i js = go (is_name i)
  where
    go : (b : Bool) → fault_of (places (cond (not b) (i ∷ keep (λ i. not (is_name i)) js) (keep (λ i. not (is_name i)) js)))
        ≡ lower (fault_of (cond b [] (i.at ∷ []))) (fault_of (name_faults js))
    go true = refl
    go false = fault-both (i.at ∷ []) (name_faults js)

-- what is known of an operator, or of none
known-keyword : (k : Option Keyword) (e : Option Edition) → keyword_known (known_by k e) ≡ k
known-keyword None e = refl
known-keyword (Some k) e = refl

keyword_of-known : (xs : List Item) → told (if_any Spec.Keyword.none keyword_of xs) ≡ keyword_known (if_any None known_item xs)
keyword_of-known [] = refl
keyword_of-known (i ∷ xs) = go (is word i) refl
  where
    go : (b : Bool) → is word i ≡ b → told (keyword_of i) ≡ keyword_known (cond b (known i.chars) None)
    go true w = ap told (keyword-item i ∙ ap (λ b. cond b (keyword_by i.chars) Spec.Keyword.unknown) w) ∙ sym (known-keyword (told (keyword_by i.chars)) _)
    go false w = ap told (keyword-item i ∙ ap (λ b. cond b (keyword_by i.chars) Spec.Keyword.unknown) w)

own-of_known : (e : Bool) (xs : List Item) → if_any false (own_item e) xs ≡ is_own e (if_any None known_item xs)
own-of_known e [] = refl
own-of_known e (i ∷ xs) = go (is word i)
  where
    go : (b : Bool) → (b && own e i.chars) ≡ is_own e (cond b (known i.chars) None)
    go true = sym (own-known i.chars e)
    go false = refl

-- the first item of the statement at n is in front of the operator, at f, before place i
record Begun (s : List ℕ) (n i f : ℕ) : Type 0 where
  ahead : filled (front (statement_at s n)) ≡ true
  first : take 1 (places (statement_at s n)) ≡ f ∷ []
  low : f < i

-- Place i is still in front of the operator of the statement at n
pub record Leading (s : List ℕ) (n i f : ℕ) (fault : Fault) (w : Verdict) : Type 0 where
  within : Within s n i
  begun : (i ≡ n → ⊥) → Begun s n i f
  operator_is : behind (statement_at s n) ≡ behind (statement_at s i)
  faults : fault_of (name_faults (front (statement_at s n))) ≡ lower fault (fault_of (name_faults (front (statement_at s i))))
  worsts : worst (front (statement_at s n) ++ operator (statement_at s n)) ≡ worse w (worst (front (statement_at s i) ++ operator (statement_at s i)))

pub no_front : {y : List Item} → y ≡ [] → front y ≡ []
unfolding front
no_front e = ap front e

pub leading-first : {s : List ℕ} {n : ℕ} → n ≤ length s → Leading s n n n None (Ok tt)
leading-first {s} {n} h =
    record {
      within = begins-within h;
      begun = λ q. absurd (q refl);
      operator_is = refl;
      faults = refl;
      worsts = refl;
    }

module _ {s : List ℕ} {n i f : ℕ} {w : Verdict} {fault : Fault} {t : Token} (l : Leading s n i f fault w) (k : NextToken s i t) {b : Bool} (b_is : b ≡ eqb i n) {f' : ℕ}
    (f_is : f' ≡ cond b t.at f) where
  abbrev x : List Item
  x = statement_at s n

  same : i ≡ n → x ≡ statement_at s i
  same e = ap (statement_at s) (sym e)

  abbrev First : ℕ → Type 0
  First p = (filled (front x) ≡ true → take 1 (places x) ≡ p ∷ []) × (eqb p t.at ≡ not (filled (front x)))

  -- the first item's place, where no item of the front is left
  firsts : front (statement_at s i) ≡ [] → First f'
  firsts none = go b b_is f_is
    where
      go : (b : Bool) → b ≡ eqb i n → f' ≡ cond b t.at f → First f'
      go true e g =
          let q = same (eqb-true i n (sym e)) in
          rw g (λ z. absurd (false≢true (sym (ap (λ y. filled (front y)) q ∙ ap filled none) ∙ z)), rw (q, none) (eq-eqb t.at t.at refl))
      go false e g =
          let u = l.begun (eqb-false i n (sym e)) in
          rw g (λ z. u.first, rw u.ahead (ne_eqb f t.at (λ y. omega (arith, y, u.low, k.from))))

  abbrev js : List Item
  js = statement_at s t.next

  -- nothing more stands in front: the token t is the operator or ends the statement
  headed : front (statement_at s i) ≡ [] → behind (statement_at s i) ≡ from_token s t → {v : Option Known} → v ≡ if_any None known_item (from_token s t)
      → {c : ℕ} {u : Verdict} → u ≡ worse w (worst (take 1 (from_token s t)))
      → Headed s n (head_with f' fault c u t v)
  unfolding keyword_in
  headed none own v-is u-is =
      record {
        from = omega (arith, l.within.from, k.from);
        stands = k.stands;
        place = i;
        within = l.within;
        token = k;
        operator = l.operator_is ∙ own;
        keyword = ap keyword_known v-is ∙ sym (ap (λ xs. told (if_any Spec.Keyword.none keyword_of xs)) (l.operator_is ∙ own) ∙ keyword_of-known (from_token s t));
        owned = λ e. ap (is_own e) v-is ∙ sym (ap (if_any false (own_item e)) (l.operator_is ∙ own) ∙ own-of_known e (from_token s t));
        first_is = (firsts none).0;
        front_is = (firsts none).1;
        fault_is = sym (l.faults ∙ ap (λ y. lower fault (fault_of (name_faults y))) none ∙ lower-clear fault);
        worst_is = u-is ∙ sym (l.worsts ∙ ap (λ y. worse w (worst (y ++ operator (statement_at s i)))) none ∙ ap (λ y. worse w (worst (take 1 y))) own);
      }

  pub no-head : {c : ℕ} → stops t.sort ≡ true
      → Headed s n (head_with f' fault c w t None)
  unfolding behind worst
  no-head z = headed (no_front (at-stop k z)) (rw (at-stop k z, z) refl) (rw z refl) (rw z (sym (worse-clear w)))

  module _ (z : stops t.sort ≡ false) {w' : Verdict} (w-is : w' ≡ worse w (token_verdict t)) where
    abbrev it : Item
    it = item_of s t

    pub head-here : operates t ≡ true → {v : Option Known} → v ≡ known_item it → {c : ℕ}
        → Headed s n (head_with f' fault c w' t v)
    unfolding worst
    head-here o v-is =
        let op_is : is_operator it ≡ true = operator_is s t ∙ o in
        headed (ap front (at_item k z) ∙ front_ends it js op_is) (rw z (ap behind (at_item k z) ∙ behind-here it js op_is)) (rw z v-is)
        (rw z (w-is ∙ ap (worse w) (sym (worse-clear (token_verdict t)) ∙ ap (λ v. worse v (Ok tt)) (token-told k.stands))))

    module _ (o : operates t ≡ false) where
      op-no : is_operator it ≡ false
      op-no = operator_is s t ∙ o

      front-some : front (statement_at s i) ≡ it ∷ front js
      front-some = ap front (at_item k z) ∙ front_goes it js op-no

      behind-some : behind (statement_at s i) ≡ behind js
      behind-some = ap behind (at_item k z) ∙ behind-goes it js op-no

      begun-then : Begun s n t.next f'
      begun-then = go b b_is f_is
        where
          go : (b : Bool) → b ≡ eqb i n → f' ≡ cond b t.at f → Begun s n t.next f'
          go true e g =
              let q = same (eqb-true i n (sym e)) in
              let m = k.stands.some (goes t.sort z).0 in
              record { ahead = ap (λ y. filled (front y)) q ∙ ap filled front-some; first = rw g (ap (λ y. take 1 (places y)) (q ∙ at_item k z)); low = omega (arith, g, m, k.stands.behind) }
          go false e g =
              let u = l.begun (eqb-false i n (sym e)) in
              record { ahead = u.ahead; first = rw g u.first; low = omega (arith, g, u.low, on k z) }

      worst-goes : worst (front (statement_at s i) ++ operator (statement_at s i)) ≡ worse (token_verdict t) (worst (front js ++ operator js))
      unfolding worst
      worst-goes =
          ap (λ y. worst (y ++ operator (statement_at s i))) front-some
          ∙ ap (λ y. worse (item_verdict it) (worst (front js ++ take 1 y))) behind-some
          ∙ ap (λ v. worse v (worst (front js ++ operator js))) (sym (token-told k.stands))

      pub still-leading : {fault' : Fault} → fault' ≡ lower fault (own_fault it) → Leading s n t.next f' fault' w'
      still-leading {fault'} g =
          record {
            within = still-within l.within k z;
            begun = λ q. begun-then;
            operator_is = l.operator_is ∙ behind-some;
            faults =
                l.faults
                ∙ ap (λ y. lower fault (fault_of (name_faults y))) front-some
                ∙ ap (lower fault) (name_fault-goes it (front js))
                ∙ sym (lower-assoc fault (own_fault it) (fault_of (name_faults (front js))))
                ∙ ap (λ a. lower a (fault_of (name_faults (front js)))) (sym g);
            worsts =
                l.worsts ∙ ap (worse w) worst-goes ∙ sym (worse_assoc w (token_verdict t) (worst (front js ++ operator js))) ∙ ap (λ v. worse v (worst (front js ++ operator js))) (sym w-is);
          }
