-- The tables of the source against the one table of instructions.
use mathlib.Core.Path.{◌≡◌, refl, ap, sym, ◌∙◌}
use mathlib.Core.Bool.{Bool, true, false, true≢false, not, ◌&&◌}
use Rattle.std.specs.Prelude.{count_by, Result, Ok, Err, is_ok}
use Rattle.std.specs.Result.{MatchResult}
use Rattle.std.proofs.lemmas.Result.{IfOk-at_ok}
use Rattle.language.specs.Operators.{op_by, Numbers}
use Rattle.language.specs.declared.Operator.{Operator}
use Rattle.language.specs.declared.NoOperator.{NoOperator}
use mathlib.Core.List.{List, [], ◌∷◌, map}
use Prim.Native.Nat.{ℕ, zero, suc, ◌≤◌, ◌<◌}
use native.Mathlib.Omega.{arith}
use lib.Dec.{ltb, leb, eqb, eqb→eq, leb→le, ltb→lt}
use lib.ListN.{length, get_or, get_or-eq_default}
use Rattle.language.specs.Instructions.{Forms as Listed, operation, operators, number_of, is_call, is_end}
use Rattle.language.specs.Program.{Op}
use Rattle.lists.specs.ListLaws.{T-left, T-right}
use Rattle.lists.specs.Lists.{if_any, keep}
use Rattle.lists.specs.Quoted.{bytes}
use Rattle.lists.specs.TableLaws.{below, below-unless}
use Rattle.words.specs.Below.ArgumentForms.{alternatives}
use Rattle.forms.specs.Forms.{Sets, SetsOf, sets, by_number, nothing, set_of, listed, set_at, most_of, least_of, calls, ends}
use Rattle.forms.specs.declared.Forms.{Forms}
use Rattle.forms.specs.ReadingLaws.{numbered, two-lists}

by-number : {X : Type 0} {n : ℕ} {o : Op} → number_of o ≡ n → (z : X) (f : Op → X) → by_number z f n ≡ f o
by-number {o = o} e z f = ap (λ (m : ℕ). by_number z f m) (sym e) ∙ numbered z f o

-- f by a number that code reads as an operator, and by one that it reads as none
pub read-as : {X : Type 0} {n : ℕ} {r : Result Operator NoOperator} {o : Operator} → Numbers n r → r ≡ Ok o → (z : X) (f : Op → X) → by_number z f n ≡ f (op_by o)
read-as {n = n} {o = o} h e z f = by-number (IfOk-at_ok (λ o. number_of (op_by o) ≡ n) e h.number) z f

abbrev operators-of : ℕ → List Op
operators-of n = keep (λ o. eqb n (operation o).number) operators

empty-list : (os : List Op) → 0 ≡ length os → os ≡ []
empty-list [] e = refl
empty-list (o ∷ os) e = absurd (omega (arith, e))

no-operators : (n : ℕ) → n < 256 → (0 < n → n ≤ 41 → ⊥) → operators-of n ≡ []
no-operators n h out =
    empty-list (operators-of n) (eqb→eq 0 (length (operators-of n)) (below-unless (λ k. ltb 0 k && leb k 41) (λ k. eqb 0 (length (operators-of k))) 256 tt n h (outside (ltb 0 n && leb n 41) refl)))
  where
    outside : (b : Bool) → (ltb 0 n && leb n 41) ≡ b → (ltb 0 n && leb n 41) ≡ false
    outside false e = e
    outside true e = absurd (out (ltb→lt 0 n (T-left (ltb 0 n) (leb n 41) (rw e tt))) (leb→le n 41 (T-right (ltb 0 n) (leb n 41) (rw e tt))))

read-none : {X : Type 0} {n : ℕ} {r : Result Operator NoOperator} {w : NoOperator} → n < 256 → Numbers n r → r ≡ Err w → (z : X) (f : Op → X) → by_number z f n ≡ z
read-none {n = n} {r} h k e z f = ap (if_any z f) (no-operators n h (λ a b. not-ok r e (k.some a b)))
  where
    not-ok : (r : Result Operator NoOperator) {w : NoOperator} → r ≡ Err w → is_ok r ≡ true → ⊥
    not-ok r e q = true≢false (sym q ∙ ap is_ok e)

abbrev empty : Forms
empty = record { bits = 0 }

-- the places of a list
none-by : (f : Op → ℕ) → ((o : Op) → f o ≡ 0) → (os : List Op) → if_any 0 f os ≡ 0
none-by f h [] = refl
none-by f h (o ∷ os) = h o

three-places : (fs : List Listed) (list place : ℕ) → 3 ≤ place → get_or (get_or (map (λ f. bytes f.0 ∷ bytes f.1 ∷ bytes f.2 ∷ []) fs) list []) place [] ≡ []
three-places [] list place h = refl
three-places (f ∷ fs) zero place h = get_or-eq_default (bytes f.0 ∷ bytes f.1 ∷ bytes f.2 ∷ []) [] h
three-places (f ∷ fs) (suc list) place h = three-places fs list place h

past-set : (n list place : ℕ) → 3 ≤ place → set_at n list place ≡ 0
unfolding set_at
past-set n list place h = none-by (λ o. set_of (listed o list place)) (λ o. ap set_of (three-places (operation o).forms list place h)) (keep (λ o. eqb n (operation o).number) operators)

set-by-place : (n list place : ℕ) → get_or (set_at n list 0 ∷ set_at n list 1 ∷ set_at n list 2 ∷ []) place 0 ≡ set_at n list place
set-by-place n list zero = refl
set-by-place n list (suc zero) = refl
set-by-place n list (suc (suc zero)) = refl
set-by-place n list (suc (suc (suc place))) = sym (past-set n list (suc (suc (suc place))) (omega arith))

pub set_in : (n list place : ℕ) {r : ℕ} (p : List Forms) → Sets n list p → r ≡ get_or (sets p) place 0 → r ≡ set_at n list place
set_in n list place p s h = h ∙ ap (λ (q : List ℕ). get_or q place 0) s ∙ set-by-place n list place

-- no instruction has more than two lists
pub past_list : (o : Op) {list : ℕ} → (list ≡ 0 → ⊥) → (list ≡ 1 → ⊥) → SetsOf o list (empty ∷ empty ∷ empty ∷ [])
unfolding SetsOf
past_list o {list} a b = rw (get_or-eq_default (alternatives o) [] {n = list} (omega (arith, two-lists o))) refl

-- the sets of an operator, by its number
pub listed_sets : {n : ℕ} {r : Result Operator NoOperator} {o : Operator} (list : ℕ) (p : List Forms) → Numbers n r → r ≡ Ok o → SetsOf (op_by o) list p → Sets n list p
unfolding set_at SetsOf
listed_sets {o = o} list p k e s =
    s ∙ same (sym (read-as k e 0 (λ x. set_of (listed x list 0)))) (sym (read-as k e 0 (λ x. set_of (listed x list 1)))) (sym (read-as k e 0 (λ x. set_of (listed x list 2))))
  where
    same : {a b c x y z : ℕ} → a ≡ x → b ≡ y → c ≡ z → ◌≡◌ {A = List ℕ} (a ∷ b ∷ c ∷ []) (x ∷ y ∷ z ∷ [])
    same e f g = rw (e, f, g) refl

pub no_sets : {n : ℕ} {r : Result Operator NoOperator} {w : NoOperator} (list : ℕ) → n < 256 → Numbers n r → r ≡ Err w → Sets n list (empty ∷ empty ∷ empty ∷ [])
unfolding set_at
no_sets list h k e = same (sym (read-none h k e 0 (λ x. set_of (listed x list 0)))) (sym (read-none h k e 0 (λ x. set_of (listed x list 1)))) (sym (read-none h k e 0 (λ x. set_of (listed x list 2))))
  where
    same : {x y z : ℕ} → 0 ≡ x → 0 ≡ y → 0 ≡ z → ◌≡◌ {A = List ℕ} (0 ∷ 0 ∷ 0 ∷ []) (x ∷ y ∷ z ∷ [])
    same e f g = rw (← e, ← f, ← g) refl

-- how many arguments an instruction takes, computed for every number
abbrev pub sets_by : ℕ → List ℕ
sets_by n = set_at n 0 0 ∷ set_at n 0 1 ∷ set_at n 0 2 ∷ []

abbrev pub not_empty : ℕ → ℕ
not_empty n = count_by (λ s. not (eqb s 0) && not (eqb s nothing)) (sets_by n)

abbrev pub needed : ℕ → ℕ
needed n = count_by (λ s. not (eqb s 0) && ltb s nothing) (sets_by n)

pub most-counted : (n : ℕ) → n < 256 → (not_empty n ≡ most_of n) × (most_of n ≤ 3)
unfolding most_of set_at
most-counted n h =
    (eqb→eq (not_empty n) (most_of n) (below (λ k. eqb (not_empty k) (most_of k)) 256 tt n h), leb→le (most_of n) 3 (below (λ k. leb (most_of k) 3) 256 tt n h))

pub least-counted : (n : ℕ) → n < 256 → (needed n ≡ least_of n) × (least_of n ≤ 3)
unfolding least_of set_at
least-counted n h =
    (eqb→eq (needed n) (least_of n) (below (λ k. eqb (needed k) (least_of k)) 256 tt n h), leb→le (least_of n) 3 (below (λ k. leb (least_of k) 3) 256 tt n h))

-- which instructions call, and which end
called : {n : ℕ} {r : Result Operator NoOperator} {o : Operator} {b : Bool} → Numbers n r → r ≡ Ok o → b ≡ is_call (operation (op_by o)).flow → b ≡ calls n
unfolding calls
called k e h = h ∙ sym (read-as k e false (λ x. is_call (operation x).flow))

not_called : {n : ℕ} {r : Result Operator NoOperator} {w : NoOperator} → n < 256 → Numbers n r → r ≡ Err w → false ≡ calls n
unfolding calls
not_called h k e = sym (read-none h k e false (λ x. is_call (operation x).flow))

ended : {n : ℕ} {r : Result Operator NoOperator} {o : Operator} {b : Bool} → Numbers n r → r ≡ Ok o → b ≡ is_end (operation (op_by o)).flow → b ≡ ends n
unfolding ends
ended k e h = h ∙ sym (read-as k e false (λ x. is_end (operation x).flow))

not_ended : {n : ℕ} {r : Result Operator NoOperator} {w : NoOperator} → n < 256 → Numbers n r → r ≡ Err w → false ≡ ends n
unfolding ends
not_ended h k e = sym (read-none h k e false (λ x. is_end (operation x).flow))

-- the two by a test of what the number is read as
pub calls_by : {n : ℕ} (r : Result Operator NoOperator) {b : Bool} → n < 256 → Numbers n r → MatchResult r (λ o. b ≡ is_call (operation (op_by o)).flow) (λ w. b ≡ false) → b ≡ calls n
calls_by (Ok o) h k m = called k refl m
calls_by (Err w) h k m = m ∙ not_called h k refl

pub ends_by : {n : ℕ} (r : Result Operator NoOperator) {b : Bool} → n < 256 → Numbers n r → MatchResult r (λ o. b ≡ is_end (operation (op_by o)).flow) (λ w. b ≡ false) → b ≡ ends n
ends_by (Ok o) h k m = ended k refl m
ends_by (Err w) h k m = m ∙ not_ended h k refl
