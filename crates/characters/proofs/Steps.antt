-- One turn of `precedes`, and its end, as laws over lists.
use mathlib.Core.Path.{◌≡◌}
use mathlib.Core.Bool.{or-false}
use mathlib.Core.List.{List, [], ◌∷◌}
use mathlib.Core.Logic.{◌⊎◌}
use Prim.Native.Nat.{ℕ, ◌+◌, ◌≤◌}
use native.Mathlib.Nat.{le_refl}
use native.Mathlib.Omega.{arith}
use lib.Dec.{ltb}
use lib.ListN.{length}
use borrow.Author.Tests.{eq-eqb, ne_eqb, le-ltb, lt-ltb}
use Rattle.std.proofs.Common.{⊎_elim}
use Rattle.characters.specs.Characters.{rank, precedes}

pub same_first : (x y : ℕ) (v w : List ℕ) → x ≡ y → precedes (x ∷ v) (y ∷ w) ≡ precedes v w
same_first x y v w e =
    let r : rank y ≤ rank x = rw e (le_refl (rank y)) in
    rw (le-ltb (rank x) (rank y) r, eq-eqb x y e)

pub other_first : (x y : ℕ) (v w : List ℕ) → (x ≡ y → ⊥) → precedes (x ∷ v) (y ∷ w) ≡ ltb (rank x) (rank y)
other_first x y v w e = rw (ne_eqb x y e) (or-false (ltb (rank x) (rank y)))

-- r and s are left of words from which as many characters were taken, and one of them is empty
pub one_ends : (n m : ℕ) (r s : List ℕ) → n + length s ≡ m + length r → (length r ≡ 0) ⊎ (length s ≡ 0) → ltb n m ≡ precedes r s
one_ends n m r [] e o = le-ltb n m (omega arith)
one_ends n m [] (y ∷ s) e o = lt-ltb n m (omega arith)
one_ends n m (x ∷ r) (y ∷ s) e o = absurd (⊎_elim (λ h. omega arith) (λ h. omega arith) o)
