-- The lowest of some places: of one that is among them and before which none stands.
use Rattle.std.specs.Prelude.{◌≡◌, refl, List, [], ◌∷◌, ◌++◌, ℕ, ◌≤◌, min, T, leb}
use Rattle.std.proofs.Common.{ap, ◌∙◌, arith, leb→le}
use Rattle.std.proofs.Math.Nat.{min-eq_left}
use Rattle.layout.specs.Below.ListLaws.{T-both, all_head, all_tail}
use Rattle.std.specs.Prelude.{Some}
use Rattle.statements.specs.Places.{none_before}
use Rattle.statements.specs.StatementAt.{fault_of}
use Rattle.lexer.specs.Below.SyntaxVerdict.{lowest}

pub none-before-both : (p : ℕ) (xs ys : List ℕ) → T (none_before p xs) → T (none_before p ys) → T (none_before p (xs ++ ys))
none-before-both p [] ys h k = k
none-before-both p (x ∷ xs) ys h k = T-both (leb p x) (none_before p (xs ++ ys)) (all_head (leb p) x xs h) (none-before-both p xs ys (all_tail (leb p) x xs h) k)

pub lowest-first : (p : ℕ) (ps : List ℕ) → T (none_before p ps) → lowest p ps ≡ p
unfolding lowest
lowest-first p [] h = refl
lowest-first p (x ∷ ps) h =
    let e : min p x ≡ p = min-eq_left (leb→le p x (all_head (leb p) x ps h)) in
    ap (λ (m : ℕ). lowest m ps) e ∙ lowest-first p ps (all_tail (leb p) x ps h)

lowest-within : (p q : ℕ) (xs ys : List ℕ) → p ≤ q → T (none_before p xs) → T (none_before p ys) → lowest q (xs ++ (p ∷ ys)) ≡ p
unfolding lowest
lowest-within p q [] ys l h k = let e : min q p ≡ p = omega arith in ap (λ (m : ℕ). lowest m ys) e ∙ lowest-first p ys k
lowest-within p q (x ∷ xs) ys l h k =
    let m = leb→le p x (all_head (leb p) x xs h) in
    lowest-within p (min q x) xs ys (omega arith) (all_tail (leb p) x xs h) k

-- the lowest place, first or further on
pub fault-first : (p : ℕ) (ps : List ℕ) → T (none_before p ps) → fault_of (p ∷ ps) ≡ Some p
fault-first p ps h = ap Some (lowest-first p ps h)

pub fault-within : (p : ℕ) (xs ys : List ℕ) → T (none_before p xs) → T (none_before p ys) → fault_of (xs ++ (p ∷ ys)) ≡ Some p
fault-within p [] ys h k = fault-first p ys k
fault-within p (x ∷ xs) ys h k = ap Some (lowest-within p x xs ys (leb→le p x (all_head (leb p) x xs h)) (all_tail (leb p) x xs h) k)
