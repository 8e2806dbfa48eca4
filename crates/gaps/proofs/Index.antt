-- The laws of how many bytes a list of strings has: where one is replaced, and up to each.
use mathlib.Core.Path.{◌≡◌, refl}
use mathlib.Core.List.{List, [], ◌∷◌}
use Prim.Native.Nat.{ℕ, zero, suc, ◌+◌, ◌≤◌, ◌<◌}
use native.Mathlib.Nat.{le_of_suc-le-suc, not-suc-le-zero}
use native.Mathlib.Numerals.{add-one}
use native.Mathlib.Omega.{arith}
use lib.ListN.{length, set}
use lib.Seq.{take-length}
use Rattle.cells.specs.Below.Strings.{used}
use Rattle.cells.proofs.Below.StringLaws.{used-cons, joined_next, joined-within}
use Rattle.gaps.specs.Pool.{string, offset}

-- what is put in is added, and what it replaces is taken away
pub used-set : (s : List (List ℕ)) (i : ℕ) (v : List ℕ) → i < length s → used (set s i v) + length (string i s) ≡ used s + length v
used-set [] i v h = absurd (not-suc-le-zero h)
used-set (x ∷ s) zero v h = omega (arith, used-cons v s, used-cons x s)
used-set (x ∷ s) (suc i) v h = omega (arith, used-cons x (set s i v), used-cons x s, used-set s i v (le_of_suc-le-suc h))

pub offset-zero : (s : List (List ℕ)) → offset 0 s ≡ 0
unfolding offset used
offset-zero s = refl

pub offset-next : (s : List (List ℕ)) (j : ℕ) → j < length s → offset (j + 1) s ≡ offset j s + length (string j s)
unfolding offset used
offset-next s j h = rw add-one (joined_next s j h)

-- a string lies within the whole, also one past the last, which is empty
pub offset-within : (s : List (List ℕ)) (j : ℕ) → offset j s + length (string j s) ≤ used s
unfolding offset used
offset-within s j = joined-within s j

pub offset-all : (s : List (List ℕ)) (n : ℕ) → length s ≡ n → offset n s ≡ used s
unfolding offset
offset-all s n e = rw (← e, take-length)
