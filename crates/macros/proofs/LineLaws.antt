-- Lines of places: they never fall, and how they rise from byte to byte.
use Rattle.std.specs.Prelude.{◌≡◌, refl, Bool, true, false, cond, List, [], ◌∷◌, ℕ, zero, suc, min, ◌+◌, ◌≤◌, ◌<◌, eqb, length, get_or, take}
use Rattle.std.proofs.Math.Decide.{dec_lt}
use Rattle.std.proofs.Common.{add-one, arith, length-take, take_all}
use Rattle.syntax.specs.Below.Lists.{keep}
use Rattle.syntax.specs.Below.ListLaws.{keep-few}
use Rattle.syntax.specs.Items.{line_of}
pub use Rattle.syntax.proofs.LineLaws.{line-least, line_low}

-- the new lines before a place
feeds : ℕ → List ℕ → ℕ
feeds p s = length (keep (eqb 10) (take p s))

feeds-rise : (p q : ℕ) (s : List ℕ) → p ≤ q → feeds p s ≤ feeds q s
unfolding feeds
feeds-rise zero q s l = omega arith
feeds-rise (suc p) zero s l = omega arith
feeds-rise (suc p) (suc q) [] l = omega arith
feeds-rise (suc p) (suc q) (b ∷ s) l = go (eqb 10 b) (feeds-rise p q s (omega arith))
  where
    go : (t : Bool) → feeds p s ≤ feeds q s
        → length (cond t (b ∷ keep (eqb 10) (take p s)) (keep (eqb 10) (take p s))) ≤ length (cond t (b ∷ keep (eqb 10) (take q s)) (keep (eqb 10) (take q s)))
    go true h = omega arith
    go false h = h

-- a place further on has no lower line
pub lines-rise : (s : List ℕ) (p q : ℕ) → p ≤ q → line_of s p ≤ line_of s q
unfolding line_of feeds
lines-rise s p q l = omega (arith, feeds-rise p q s l)

-- one byte on
feeds-on : (i : ℕ) (s : List ℕ) → i < length s → feeds (suc i) s ≡ feeds i s + cond (eqb 10 (get_or s i 0)) 1 0
unfolding feeds
feeds-on i [] h = absurd (omega (arith, h))
feeds-on zero (b ∷ s) h = go (eqb 10 b)
  where
    go : (t : Bool) → length (cond t (b ∷ []) []) ≡ 0 + cond t 1 0
    go true = refl
    go false = refl
feeds-on (suc i) (b ∷ s) h = go (eqb 10 b) (feeds-on i s (omega (arith, h)))
  where
    go : (t : Bool) → feeds (suc i) s ≡ feeds i s + cond (eqb 10 (get_or s i 0)) 1 0
        → length (cond t (b ∷ keep (eqb 10) (take (suc i) s)) (keep (eqb 10) (take (suc i) s))) ≡ length (cond t (b ∷ keep (eqb 10) (take i s)) (keep (eqb 10) (take i s))) + cond (eqb 10 (get_or s i 0)) 1 0
    go true e = omega (arith, e)
    go false e = e

pub line_on : (s : List ℕ) (i : ℕ) → i < length s → line_of s (i + 1) ≡ line_of s i + cond (eqb 10 (get_or s i 0)) 1 0
unfolding line_of feeds
line_on s i h = rw add-one (let e = feeds-on i s h in omega (arith, e))

-- past the end there are no more
pub line-past : (s : List ℕ) (p : ℕ) → line_of s (min p (length s)) ≡ line_of s p
unfolding line_of
line-past s p = go (dec_lt (length s) p)
  where
    go : Dec (length s < p) → suc (length (keep (eqb 10) (take (min p (length s)) s))) ≡ suc (length (keep (eqb 10) (take p s)))
    go (no h) = let e : min p (length s) ≡ p = omega arith in rw e refl
    go (yes h) =
        let e : min p (length s) ≡ length s = omega arith in
        rw (e, take_all (length s) s (omega arith), take_all p s (omega arith)) refl

-- at most one more than the text has bytes
pub line-high : (s : List ℕ) (p : ℕ) → line_of s p ≤ suc (length s)
unfolding line_of
line-high s p = omega (arith, keep-few (eqb 10) (take p s), length-take p s)
