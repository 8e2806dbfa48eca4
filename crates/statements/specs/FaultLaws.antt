-- The faults of two rows of places, and how the verdicts of questions join.
use Rattle.std.specs.Prelude.{◌≡◌, refl, List, [], ◌∷◌, ◌++◌, ℕ, min}
use Rattle.std.proofs.Common.{sym, ap, ◌∙◌, arith}
use Rattle.statements.specs.StatementAt.{fault_of}
use Rattle.statements.specs.Faults.{Fault}
use Rattle.std.specs.Prelude.{None, Some}
use Rattle.lexer.proofs.Below.SyntaxLoadLaws.{lowest-append}
use Rattle.lexer.specs.Below.SyntaxVerdict.{Question, ask, Verdict, lowest, decide, first_no}
use Rattle.lexer.specs.Below.SyntaxVerdict.Verdict.{yes, refuse}
use Rattle.statements.specs.Faults.{lower, decided, then}

pub lowest-min : (a y : ℕ) (ys : List ℕ) → lowest (min a y) ys ≡ min a (lowest y ys)
unfolding lowest
lowest-min a y [] = refl
lowest-min a y (z ∷ ys) =
    let e : min (min a y) z ≡ min a (min y z) = omega arith in
    ap (λ (m : ℕ). lowest m ys) e ∙ lowest-min a (min y z) ys

pub fault-both : (xs ys : List ℕ) → fault_of (xs ++ ys) ≡ lower (fault_of xs) (fault_of ys)
unfolding lowest
fault-both [] ys = refl
fault-both (x ∷ xs) [] = ap Some (lowest-append x xs [])
fault-both (x ∷ xs) (y ∷ ys) = ap Some (lowest-append x xs (y ∷ ys) ∙ lowest-min (lowest x xs) y ys)

-- no place is at fault
pub no-fault : (ps : List ℕ) → fault_of ps ≡ None → ps ≡ []
no-fault [] e = refl
no-fault (p ∷ ps) e = absurd (let y : ◌≡◌ {A = ℕ} 0 1 = cc in omega arith)

pub lower-clear : (a b : Fault) → lower a b ≡ None → (a ≡ None) × (b ≡ None)
lower-clear None b e = (refl, e)
lower-clear (Some p) None e = absurd (let y : ◌≡◌ {A = ℕ} 0 1 = cc in omega arith)
lower-clear (Some p) (Some q) e = absurd (let y : ◌≡◌ {A = ℕ} 0 1 = cc in omega arith)

pub lower-none : (a b : Fault) → a ≡ None → b ≡ lower a b
lower-none a b e = sym (ap (λ (f : Fault). lower f b) e)

module _ (a b : Fault) {p : ℕ} where
  pub lower-one : a ≡ Some p → b ≡ None → Some p ≡ lower a b
  lower-one e f = sym (ap (λ (x : Fault). lower x b) e ∙ ap (λ (x : Fault). lower (Some p) x) f)

  pub lower-two : {q r : ℕ} → a ≡ Some p → b ≡ Some q → r ≡ min p q → Some r ≡ lower a b
  lower-two {q} {r} e f g = ap Some g ∙ sym (ap (λ (x : Fault). lower x b) e ∙ ap (λ (x : Fault). lower (Some p) x) f)

-- a question by its fault, before others
pub question-decides : (number : ℕ) (ps : List ℕ) (qs : List Question) → first_no (ask number ps ∷ qs) ≡ then (decided number (fault_of ps)) (first_no qs)
unfolding first_no decide
question-decides number [] qs = refl
question-decides number (p ∷ ps) qs = refl

-- rows of questions, one after the other
then-assoc : (u v w : Verdict) → then u (then v w) ≡ then (then u v) w
then-assoc yes v w = refl
then-assoc (refuse number at) v w = refl

pub then-yes : (v : Verdict) → then v yes ≡ v
then-yes yes = refl
then-yes (refuse number at) = refl

pub first_no-both : (xs ys : List Question) → first_no (xs ++ ys) ≡ then (first_no xs) (first_no ys)
unfolding first_no
first_no-both [] ys = refl
first_no-both (q ∷ xs) ys =
    question-decides q.number q.faults (xs ++ ys)
    ∙ ap (then (decided q.number (fault_of q.faults))) (first_no-both xs ys)
    ∙ then-assoc (decided q.number (fault_of q.faults)) (first_no xs) (first_no ys)
    ∙ ap (λ (v : Verdict). then v (first_no ys)) (sym (question-decides q.number q.faults xs))
