-- The tables of the source against the definitions, each by one computed test.
use mathlib.Core.Path.{◌≡◌, refl}
use mathlib.Core.Bool.{true, not, ◌||◌, beq}
use mathlib.Core.List.{List, ◌∷◌}
use Prim.Native.Nat.{ℕ, suc, ◌+◌, ◌-◌, ◌≤◌, ◌<◌}
use native.Mathlib.Omega.{arith}
use lib.Dec.{T, eqb, eqb→eq}
use lib.ListN.{get_or, get_or-eq_default}
use Rattle.std.proofs.lemmas.List.{get_or-map}
use Rattle.lists.specs.Quoted.{bytes}
use Rattle.lists.specs.TableLaws.{beq-eq, up_to, below}
use Rattle.characters.specs.Characters.{ranked, known, rank, byte_of, between, class_of}

-- rank k + 1 has the character at k
pub by_rank : (r k : ℕ) → 1 ≤ r → k ≡ r - 1 → byte_of r ≡ get_or ranked k 0
by_rank r k h e = let f : r ≡ suc k = omega (arith, h, e) in rw f refl

-- the letters of their classes
abbrev pub classes : List ℕ
classes = bytes "BRRRRRRRRRRRRRRRRRRRLLLLLLLLLLLLLLLLLLLLLLLLLLLLLLLLLLLLLLLLLLLLLLLLLLLLRDDDDDDDDDDRRRR"

pub class_by-rank : (r : ℕ) → (r ≡ 0 → ⊥) → r ≤ 87 → get_or classes (r - 1) 0 ≡ class_of (byte_of r)
class_by-rank r n h = rw (by_rank r (r - 1) (omega arith) refl) (get_or-map class_of ranked (r - 1) 0 0 (omega arith))

-- a number that is no rank
pub past : (r : ℕ) → 87 < r → byte_of r ≡ 0
past r h = get_or-eq_default (0 ∷ ranked) 0 h

-- ---- the bytes from a to z, where they stand in a row from rank r on: letters and digits, whose ranks need no table

pub in_a_row : (a z r b : ℕ) → T (up_to (λ k. not (between a z k) || eqb (k - a + r) (rank k)) 256) → b < 256 → between a z b ≡ true → b - a + r ≡ rank b
in_a_row a z r b t h e =
    eqb→eq (b - a + r) (rank b) (rw e at (below (λ k. not (between a z k) || eqb (k - a + r) (rank k)) 256 t b h))

-- ---- the table by byte

abbrev pub marks : List ℕ
marks =
    bytes "0000000000101111000000000001000010000001111111111111111111111111011111111111111111111111111101000111111111111111111111111110000100000000000000000000000000000000000000000000000000000000000000000000000000000000000000000000000000000000000000000000000000000000"

pub known_by : (b : ℕ) → b < 256 → eqb (get_or marks b 0) 49 ≡ known b
unfolding known
known_by b h = beq-eq (eqb (get_or marks b 0) 49) (known b) (below (λ k. beq (eqb (get_or marks k 0) 49) (known k)) 256 tt b h)
