-- A call: its name, its end, and its cells.
use mathlib.Core.Path.{◌≡◌, refl, ap, sym, ◌∙◌}
use mathlib.Core.Bool.{Bool, true, false, cond, not, ◌&&◌, ◌||◌, false≢true}
use mathlib.Core.List.{List, [], ◌∷◌, ◌++◌}
use Prim.Native.Nat.{ℕ, min, ◌+◌, ◌≤◌}
use native.Mathlib.Nat.{le_refl}
use native.Mathlib.Omega.{arith}
use lib.Dec.{eqb}
use lib.ListN.{length, drop}
use Rattle.lists.specs.Lists.{all, filled, if_any}
use Rattle.statements.specs.Faults.{Fault}
use Rattle.std.specs.Prelude.{None, Some}
use Rattle.statements.specs.Faults.{lower}
use Rattle.statements.specs.FaultLaws.{fault-both}
use Rattle.statements.specs.StatementAt.{fault_of}
use Rattle.syntax.specs.Items.Sort.{end}
use Rattle.syntax.specs.Verdict.{lowest}
use Rattle.macros.specs.Elements as spec
use Rattle.macros.specs.Elements.{is_end, is_identifier, until, from}
use Rattle.macros.specs.Pieces.{is_argument, is_parameter, name_faults, call_faults, call_stop}
use Rattle.std.specs.Prelude.{Option, is_some}
use Rattle.std.specs.Bool.{then_some}
use Rattle.macro_elements.specs.ElementAt.{joined_at, elements_from, argument_value, FirstElement}
use Rattle.macro_elements.specs.declared.Element.{Element}
use Rattle.scanner.specs.declared.Sort.{Sort}
use Rattle.scanner.specs.Sorts.{sort_in}
use Rattle.lexer.proofs.Finding.{one_sort}
use Rattle.macro_changes.specs.Changing.{shuts, inside, stop_of, InsideAt, GivenAt, given_from, ends_from, argument_faults, Named, EndsCall}
use Rattle.macro_changes.proofs.Searching.{from-off}
use Rattle.macro_changes.proofs.Giving.{keep-first, one-fault, inside_shut, stretch-on, rest-on, given_here, given-on}

-- the name
pub no_name : {s : List ℕ} {closing : Bool} {star n : ℕ} → given_from s closing n ≡ [] → Named s closing star n (Some star)
unfolding name_faults lowest
no_name h = record { is = λ v e. rw (h, e) refl }

empty : (s : List ℕ) (e : ℕ) (o : Option ℕ) (z : Bool) → is_some o ≡ not z → not (filled (joined_at s e o)) ≡ z
empty s e None true h = refl
empty s e None false h = absurd (false≢true h)
empty s e (Some b) true h = absurd (false≢true (sym h))
empty s e (Some b) false h = refl

pub a-name : {s : List ℕ} {closing : Bool} {star n : ℕ} {t : Element} (k : GivenAt s closing n t) → {i : Bool} (none : Bool) {r : Fault} → i ≡ is_identifier (argument_value s t) → is_some t.joined ≡ not none
    → r ≡ then_some (not (i && none)) t.at → Named s closing star n r
unfolding name_faults
a-name {s} {closing} {star} {n} {t} k {i} none {r} e g f =
    record {
      is =
          λ v q.
          f
          ∙ one-fault (not (i && none)) t.at
          ∙ (let m = sym (empty s t.end t.joined none g) in λ z. fault_of (cond (not (e z && m z)) (t.at ∷ []) []))
          ∙ turned (is_identifier (argument_value s t) && not (filled (argument_value s t).joined))
          ∙ ap (λ (ts : List spec.Element). fault_of (name_faults v ts)) (sym (given-on k));
    }
  where
    turned : (b : Bool) → fault_of (cond (not b) (t.at ∷ []) []) ≡ fault_of (cond b [] (t.at ∷ []))
    turned true = refl
    turned false = refl

-- faults of the name, and of all that is given
same_place : (p : ℕ) (f : Fault) → lower (Some p) (lower (Some p) f) ≡ lower (Some p) f
same_place p None = let e : min p p ≡ p = omega arith in ap Some e
same_place p (Some q) = let e : min p (min p q) ≡ min p q = omega arith in ap Some e

-- the end
end-open : (closing : Bool) (t : spec.Element) → t.sort ≡ end → shuts closing t ≡ false
end-open true t e = rw e refl
end-open false t e = refl

module _ {s : List ℕ} {closing : Bool} {n : ℕ} (size : length s ≤ 32768) (least : n ≤ length s) where
  shut-here : inside s closing n ≡ [] → {r : ℕ} → r ≤ length s → r ≡ stop_of s closing n → EndsCall s closing n (record { stop = r; next = n })
  unfolding call_stop
  shut-here none l f =
      record { from = le_refl n; most = least; stop_most = l; stop_is = f ∙ rw none refl; on = none ∙ rw none refl; rest = refl }

  pub ends-at-none : elements_from s n ≡ [] → EndsCall s closing n (record { stop = length s; next = n })
  ends-at-none e = shut-here (ap (until (shuts closing)) e) (le_refl (length s)) (rw e refl)

  module _ {t : Element} (k : FirstElement s n t) where
    pub ends-at_end : {r : ℕ} → is_end (argument_value s t) ≡ true → r ≡ t.at + cond (eqb t.byte 59) 1 0 → EndsCall s closing n (record { stop = r; next = t.next })
    unfolding call_stop
    ends-at_end {r} e f =
        let i : InsideAt s closing n t = (record { first = k; fails = end-open closing (argument_value s t) (ap sort_in (one_sort (Some Sort.End) (Some t.sort) e)) }) in
        let on = stretch-on i in
        let z = k.more in
        let g : r ≡ cond (eqb t.byte 59) (t.at + 1) t.at = f ∙ added (eqb t.byte 59) in
        let ends : ends_from s closing n ≡ argument_value s t ∷ inside s closing t.next = ap (from is_end) on ∙ from-off is_end (argument_value s t) (inside s closing t.next) e in
        record {
          from = omega (arith, k.from);
          most = k.held.most;
          stop_most = most_of (eqb t.byte 59) g (omega (arith, k.held.most)) (omega (arith, k.held.most));
          stop_is = g ∙ rw ends refl;
          on = sym (ap (drop 1) ends);
          rest = sym (rest-on i);
        }
      where
        added : (b : Bool) → t.at + cond b 1 0 ≡ cond b (t.at + 1) t.at
        added true = refl
        added false = omega arith

        most_of : (b : Bool) {a c : ℕ} → r ≡ cond b a c → a ≤ length s → c ≤ length s → r ≤ length s
        most_of true e l m = omega arith
        most_of false e l m = omega arith

    pub ends-at-close : is_end (argument_value s t) ≡ false → given_from s closing n ≡ [] → EndsCall s closing n (record { stop = t.at; next = n })
    ends-at-close a d = go (shuts closing (argument_value s t)) refl
      where
        go : (o : Bool) → shuts closing (argument_value s t) ≡ o → EndsCall s closing n (record { stop = t.at; next = n })
        go true e =
            shut-here (inside_shut k closing e) (let z = k.more in omega (arith, k.held.most))
            (sym (ap (λ (ts : List spec.Element). if_any (length s) (λ y. y.at) ts) (ap (from (shuts closing)) k.is ∙ from-off (shuts closing) (argument_value s t) (elements_from s t.next) e)))
        go false e = absurd (false≢true (ap filled (sym d ∙ given-on (given_here closing (record { first = k; fails = e }) a))))

-- the faults of a call, with those of the name tried as an argument too
good-argument : (ps : List (List ℕ)) (t : spec.Element) → (is_identifier t && not (filled t.joined)) ≡ true → is_argument ps t ≡ true
good-argument ps t h = go (spec.is_text t) (is_identifier t) (spec.is_number t) t.joined h
  where
    go : (x i n : Bool) (ws : List (List ℕ)) → (i && not (filled ws)) ≡ true → (x || ((i || n) && all (λ w. i && is_parameter ps w) ws)) ≡ true
    go true i n ws e = refl
    go false true n [] e = refl
    go false true n (w ∷ ws) e = absurd (false≢true e)
    go false false n ws e = absurd (false≢true e)

pub call_faults-are : (ps : List (List ℕ)) (star : spec.Element) (ts : List spec.Element)
    → fault_of (call_faults ps star ts) ≡ lower (fault_of (name_faults star ts)) (fault_of (argument_faults ps ts))
unfolding call_faults name_faults lowest
call_faults-are ps star [] = refl
call_faults-are ps star (t ∷ ts) =
    ap (λ (ns : List ℕ). fault_of (cond good [] (t.at ∷ []) ++ ns)) refl
    ∙ fault-both (cond good [] (t.at ∷ [])) rest
    ∙ go good refl
    ∙ ap (λ (ns : List ℕ). lower (fault_of (cond good [] (t.at ∷ []))) (fault_of ns)) (sym (keep-first (λ y. not (is_argument ps y)) t ts))
  where
    good : Bool
    good = is_identifier t && not (filled t.joined)

    rest : List ℕ
    rest = argument_faults ps ts

    own : Bool
    own = not (is_argument ps t)

    bad : (b : Bool) → lower (Some t.at) (fault_of rest) ≡ lower (Some t.at) (fault_of (cond b (t.at ∷ []) [] ++ rest))
    bad true = sym (ap (lower (Some t.at)) (fault-both (t.at ∷ []) rest) ∙ same_place t.at (fault_of rest))
    bad false = refl

    go : (g : Bool) → good ≡ g → lower (fault_of (cond g [] (t.at ∷ []))) (fault_of rest) ≡ lower (fault_of (cond g [] (t.at ∷ []))) (fault_of (cond own (t.at ∷ []) [] ++ rest))
    go true e = rw (good-argument ps t e) refl
    go false e = bad own
