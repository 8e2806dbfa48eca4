-- Laws of questions in order: the first no is one of the questions, answered no.
use Rattle.std.specs.Prelude.{◌≡◌, Bool, true, false, not, cond, ◌&&◌, ◌||◌, List, [], ◌∷◌, map, ℕ, T, eqb}
use Rattle.std.proofs.Common.{arith}
use Rattle.std.proofs.Math.Dec.{eqb_refl}
use Rattle.lists.specs.BoolLaws.{T-first}
use Rattle.lists.specs.Lists.{all, any, among}
use Rattle.language.specs.Program.{Program}
use Rattle.language.specs.Values.{State, Inputs}
use Rattle.layout.specs.Below.Steps.{Question, numbers, questions, refusals}
use Rattle.calls.specs.Answers.{FirstNo}

-- where no question is answered no, all are answered yes
pub none-no : (qs : List Question) → refusals qs ≡ [] → T (all (λ q. q.1) qs)
none-no [] e = tt
none-no (q ∷ qs) e = go q.1 e (none-no qs)
  where
    go : (b : Bool) → cond b (refusals qs) (q.0 ∷ refusals qs) ≡ [] → (refusals qs ≡ [] → T (all (λ q. q.1) qs)) → T (b && all (λ q. q.1) qs)
    go true e k = k e
    go false e k = absurd (let z : ◌≡◌ {A = ℕ} 0 1 = cc in omega arith)

-- the first no is one of the questions, answered no
abbrev pub no_at : ℕ → List Question → Bool
no_at number qs = any (λ q. not q.1 && eqb number q.0) qs

pub first-at : (number : ℕ) (qs : List Question) → FirstNo number qs → T (no_at number qs)
first-at number [] h = let e = h.1 in absurd (let z : ◌≡◌ {A = ℕ} 0 1 = cc in omega arith)
first-at number (q ∷ qs) h = go q.1 h.1 (first-at number qs)
  where
    go : (b : Bool) → cond b (refusals qs) (q.0 ∷ refusals qs) ≡ number ∷ h.0 → (FirstNo number qs → T (no_at number qs))
        → T ((not b && eqb number q.0) || no_at number qs)
    go true e k = k (h.0, e)
    go false e k = let z : q.0 ≡ number = cc in rw z (T-first (eqb number number) (no_at number qs) (eqb_refl number))

-- and has the number of one of them
asked-among : (number : ℕ) (qs : List Question) → T (no_at number qs) → T (among number (map (λ q. q.0) qs))
asked-among number [] h = h
asked-among number (q ∷ qs) h = go q.1 (eqb number q.0) h (asked-among number qs)
  where
    go : (b c : Bool) → T ((not b && c) || no_at number qs) → (T (no_at number qs) → T (among number (map (λ q. q.0) qs)))
        → T (c || among number (map (λ q. q.0) qs))
    go b true h k = tt
    go true false h k = k h
    go false false h k = k h

pub first-among : (number : ℕ) (qs : List Question) → FirstNo number qs → T (among number (map (λ q. q.0) qs))
first-among number qs h = asked-among number qs (first-at number qs h)

pub step-number : (p : Program) (ins : Inputs) (s : State) (number : ℕ) → FirstNo number (questions p ins s) → T (among number numbers)
unfolding questions
step-number p ins s number h = first-among number (questions p ins s) h

-- of the three questions on a call: a well-formed table does not bring 62, a memory that passes does not bring 63
pub no-62 : (a b d : Bool) → T a → T (no_at 62 ((62, a) ∷ (61, b) ∷ (63, d) ∷ [])) → ⊥
no-62 true true true t h = h
no-62 true true false t h = h
no-62 true false true t h = h
no-62 true false false t h = h
no-62 false b d t h = t

pub no-63 : (a b d : Bool) → T d → T (no_at 63 ((62, a) ∷ (61, b) ∷ (63, d) ∷ [])) → ⊥
no-63 true true true t h = h
no-63 true false true t h = h
no-63 false true true t h = h
no-63 false false true t h = h
no-63 a b false t h = t
