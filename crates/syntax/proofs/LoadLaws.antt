-- How faults decide, how a word meets its colon, how statements part: for proofs of code that goes from item to item.
use Rattle.std.specs.Prelude.{◌≡◌, refl, Bool, true, false, List, [], ◌∷◌, ◌++◌, ℕ, min, T}
use Rattle.std.proofs.Common.{subst, arith}
use Rattle.language.specs.Values.{chars}
use Rattle.language.specs.Below.Lists.{all, among, if_any}
use Rattle.language.specs.Below.ListLaws.{T-left, T-right}
use Rattle.syntax.specs.Items.{Sort, Item, is, a_word, a_mark, attach, named}
use Rattle.syntax.specs.Items.Sort.{separator, word, colon, end, text, wrong}
use Rattle.syntax.specs.Verdict.{Question, ask, lowest, decide, first_no}
use Rattle.syntax.specs.Verdict.Verdict.{refuse}

-- the lowest of two rows of places is found row by row
pub lowest-append : (p : ℕ) (xs ys : List ℕ) → lowest p (xs ++ ys) ≡ lowest (lowest p xs) ys
unfolding lowest
lowest-append p [] ys = refl
lowest-append p (x ∷ xs) ys = lowest-append (min p x) xs ys

-- a question without faults leaves the rest to decide; the first with a fault decides
pub goes_on : (number : ℕ) (qs : List Question) → first_no (ask number [] ∷ qs) ≡ first_no qs
unfolding first_no decide
goes_on number qs = refl

pub decides : (number p : ℕ) (ps : List ℕ) (qs : List Question) → first_no (ask number (p ∷ ps) ∷ qs) ≡ refuse number (lowest p ps)
unfolding first_no decide
decides number p ps qs = refl

-- a refusal has the number of one of the questions
abbrev pub all_listed : List ℕ → List Question → Bool
all_listed ns qs = all (λ q. among q.number ns) qs

pub refuse-listed : (ns : List ℕ) (qs : List Question) → T (all_listed ns qs) → (number at : ℕ) → first_no qs ≡ refuse number at → T (among number ns)
unfolding first_no decide
refuse-listed ns [] h number at e = absurd (let z : ◌≡◌ {A = ℕ} 0 1 = cc in omega arith)
refuse-listed ns (q ∷ qs) h number at e = go q.faults e (refuse-listed ns qs (T-right (among q.number ns) (all_listed ns qs) h) number at)
  where
    same : {i j k l : ℕ} → refuse i k ≡ refuse j l → i ≡ j
    same f = cc

    go : (ps : List ℕ) → decide q.number ps (first_no qs) ≡ refuse number at → (first_no qs ≡ refuse number at → T (among number ns)) → T (among number ns)
    go [] f rest = rest f
    go (p ∷ ps) f rest = subst (λ (n : ℕ). T (among n ns)) (same f) (T-left (among q.number ns) (all_listed ns qs) h)

-- a name and its colon are one item
pub name-colon : (p q : ℕ) (w : List ℕ) (js : List Item)
    → named (a_word p w ∷ a_mark colon q ∷ js) ≡ record { at = p; sort = word; chars = w; good = true; colon = q ∷ [] } ∷ named js
unfolding named attach
name-colon p q w js = refl

-- any other item stays what it is
pub item-alone : (i : Item) (js : List Item) → is word i ≡ false → named (i ∷ js) ≡ i ∷ named js
unfolding named attach
item-alone i js h = rw h refl

still-leads : (k : Sort) (t : Bool) (i : Item) (js : List Item) → i.sort ≡ k → if_any false (is colon) js ≡ t → if_any false (is colon) (attach i js) ≡ is colon i
unfolding attach
still-leads separator t i js h e = rw h refl
still-leads word true i js h e = rw (h, e) refl
still-leads word false i js h e = rw (h, e) refl
still-leads colon t i js h e = rw h refl
still-leads end t i js h e = rw h refl
still-leads text t i js h e = rw h refl
still-leads wrong t i js h e = rw h refl

-- a colon leads with the words' colons taken in or not
pub named-leads : (js : List Item) → if_any false (is colon) (named js) ≡ if_any false (is colon) js
unfolding named
named-leads [] = refl
named-leads (i ∷ js) = still-leads i.sort _ i (named js) refl refl

pub word-alone : (p : ℕ) (w : List ℕ) (js : List Item) → if_any false (is colon) js ≡ false → named (a_word p w ∷ js) ≡ a_word p w ∷ named js
unfolding named attach
word-alone p w js h = rw (named-leads js, h) refl
