-- Laws of the ranks: rank and byte are inverse to each other on the characters, every other byte comes after them, and where the small letters stand.
use Rattle.std.specs.Prelude.{◌≡◌, refl, Bool, true, false, ◌||◌, List, [], ◌∷◌, ℕ, suc, ◌+◌, ◌≤◌, ◌<◌, T, leb, ltb, eqb, length}
use Rattle.std.proofs.Common.{ap, arith, eqb→eq, leb→le, ltb→lt, ne_eqb}
use Rattle.lists.specs.Lists.{ahead, among}
use Rattle.lists.specs.ListLaws.{all_among}
use Rattle.lists.specs.TableLaws.{up_to, below, below-unless}
use Rattle.characters.specs.Characters.{ranked, count, known, rank, byte_of, class_of}

pub byte-rank : (b : ℕ) → T (known b) → byte_of (rank b) ≡ b
unfolding known
byte-rank b h = eqb→eq (byte_of (rank b)) b (all_among (λ (k : ℕ). eqb (byte_of (rank k)) k) ranked tt b h)

pub rank-byte : (r : ℕ) → 0 < r → r ≤ count → rank (byte_of r) ≡ r
rank-byte r l h =
    eqb→eq (rank (byte_of r)) r
    (below-unless (λ k. eqb k 0) (λ k. eqb (rank (byte_of k)) k) (suc count) tt r (omega arith) (ne_eqb r 0 (λ e. omega arith)))

pub known-rank : (b : ℕ) → T (known b) → rank b ≤ count
unfolding known
known-rank b h = leb→le (rank b) count (all_among (λ (k : ℕ). leb (rank k) count) ranked tt b h)

pub known-byte : (b : ℕ) → T (known b) → b < 128
unfolding known
known-byte b h = ltb→lt b 128 (all_among (λ (k : ℕ). ltb k 128) ranked tt b h)

-- no number of the list is x: all of it stands ahead
none_ahead : (x : ℕ) (xs : List ℕ) → among x xs ≡ false → ahead (eqb x) xs ≡ length xs
none_ahead x [] h = refl
none_ahead x (y ∷ xs) h = go (eqb x y) h (none_ahead x xs)
  where
    go : (t : Bool) → (t || among x xs) ≡ false → (among x xs ≡ false → ahead (eqb x) xs ≡ length xs)
        → elim t [ true ↦ 0 | false ↦ suc (ahead (eqb x) xs) ] ≡ suc (length xs)
    go true h k = cc
    go false h k = ap suc (k h)

pub unknown-rank : (b : ℕ) → known b ≡ false → rank b ≡ suc count
unfolding known
unknown-rank b h = ap suc (none_ahead b ranked h)

-- ---- "The 26 small letters become characters .. class L, with ranks just after Z. SI and all later ranks move up by 26."

pub small-ranks : (i : ℕ) → i < 26 → (rank (97 + i) ≡ 47 + i) × (class_of (97 + i) ≡ 76)
small-ranks i h = (
  eqb→eq (rank (97 + i)) (47 + i) (below (λ k. eqb (rank (97 + k)) (47 + k)) 26 tt i h),
  eqb→eq (class_of (97 + i)) 76 (below (λ k. eqb (class_of (97 + k)) 76) 26 tt i h),
)

pub small-after-capitals : (i j : ℕ) → i < 26 → j < 26 → T (ltb (rank (65 + i)) (rank (97 + j)))
small-after-capitals i j h k =
    below (λ n. ltb (rank (65 + i)) (rank (97 + n))) 26 (below (λ m. up_to (λ n. ltb (rank (65 + m)) (rank (97 + n))) 26) 26 tt i h) j k

pub small-before-SI : (i : ℕ) → i < 26 → T (ltb (rank (97 + i)) (rank 15))
small-before-SI i h = below (λ k. ltb (rank (97 + k)) (rank 15)) 26 tt i h

pub si-rank : rank 15 ≡ 73
si-rank = refl
