-- Laws of the strings at rest: they are read back, and each lies where the lengths before it say.
use Rattle.std.specs.Prelude.{◌≡◌, refl, length, get_or, take, drop}
use Rattle.std.proofs.Common.{sym, ap, ◌∙◌, not-suc-le-zero, le_of_suc-le-suc, arith, length-append, drop_at, drop-drop}
use mathlib.Core.List.{List, [], ◌∷◌, ◌++◌, map, append_assoc}
use Prim.Native.Nat.{ℕ, zero, suc, ◌+◌, ◌*◌, ◌-◌, ◌/◌, ◌%◌, ◌≤◌, ◌<◌}
use Rattle.std.proofs.Math.ListN.{replicate}
use Rattle.std.proofs.lemmas.List.{length-replicate}
use Rattle.std.proofs.Math.Seq.{take-append_seam, drop-append_seam}
use Rattle.machine.specs.Below.Lists.{joined, total}
use Rattle.layout.specs.Bounds.{Each, Below}
use Rattle.layout.proofs.CellLaws.{twice, twice-one, below-append, below-zeros, two_back, two-below}
use Rattle.layout.specs.Cells.{two}
use Rattle.layout.specs.Strings.{lengths, used, string_cells, lengths_in, cut_by, strings_in}
use Rattle.layout.specs.Places as layout

-- ---- the strings end to end

module _ {X : Type 0} where
  pub joined-append : (a b : List (List X)) → joined (a ++ b) ≡ joined a ++ joined b
  joined-append [] b = refl
  joined-append (v ∷ a) b = rw (joined-append a b, append_assoc)

  -- the strings before string i, string i, and those after it
  pub joined-split : (vs : List (List X)) (i : ℕ) → i < length vs → joined vs ≡ joined (take i vs) ++ (get_or vs i [] ++ joined (drop (suc i) vs))
  joined-split [] i h = absurd (not-suc-le-zero h)
  joined-split (v ∷ vs) zero h = refl
  joined-split (v ∷ vs) (suc i) h = rw (joined-split vs i (le_of_suc-le-suc h), append_assoc)

  -- the next string starts where string i ends
  pub joined_next : (vs : List (List X)) (i : ℕ) → i < length vs → length (joined (take (suc i) vs)) ≡ length (joined (take i vs)) + length (get_or vs i [])
  joined_next [] i h = absurd (not-suc-le-zero h)
  joined_next (v ∷ vs) zero h = simp length-append (omega arith)
  joined_next (v ∷ vs) (suc i) h = simp length-append (omega (arith, joined_next vs i (le_of_suc-le-suc h)))

  -- a string lies within the whole, also one past the last, which is empty
  pub joined-within : (vs : List (List X)) (i : ℕ) → length (joined (take i vs)) + length (get_or vs i []) ≤ length (joined vs)
  joined-within [] zero = omega arith
  joined-within [] (suc i) = omega arith
  joined-within (v ∷ vs) zero = simp length-append (omega arith)
  joined-within (v ∷ vs) (suc i) = simp length-append (omega (arith, joined-within vs i))

pub used-append : (a b : List (List ℕ)) → used (a ++ b) ≡ used a + used b
unfolding used
used-append a b = rw (joined-append a b, length-append)

pub used-cons : (v : List ℕ) (vs : List (List ℕ)) → used (v ∷ vs) ≡ length v + used vs
unfolding used
used-cons v vs = length-append v (joined vs)

-- each string is shorter than any number beyond them all
pub strings-short : (vs : List (List ℕ)) (n : ℕ) → used vs < n → Each (λ v. length v < n) vs
strings-short [] n h = tt
strings-short (v ∷ vs) n h = (omega (arith, used-cons v vs), strings-short vs n (omega (arith, used-cons v vs)))

-- ---- the lengths

pub length-lengths : (vs : List (List ℕ)) → length (lengths vs) ≡ 2 * length vs
unfolding lengths
length-lengths [] = refl
length-lengths (v ∷ vs) = rw (length-lengths vs) (omega arith)

-- the two cells of string i
pub lengths-low : (vs : List (List ℕ)) (i : ℕ) → i < length vs → get_or (lengths vs) (2 * i) 0 ≡ length (get_or vs i []) % 256
unfolding lengths
lengths-low [] i h = absurd (not-suc-le-zero h)
lengths-low (v ∷ vs) zero h = refl
lengths-low (v ∷ vs) (suc i) h = rw (twice i) (lengths-low vs i (le_of_suc-le-suc h))

pub lengths-high : (vs : List (List ℕ)) (i : ℕ) → i < length vs → get_or (lengths vs) (2 * i + 1) 0 ≡ length (get_or vs i []) / 256
unfolding lengths
lengths-high [] i h = absurd (not-suc-le-zero h)
lengths-high (v ∷ vs) zero h = refl
lengths-high (v ∷ vs) (suc i) h = rw (twice-one i) (lengths-high vs i (le_of_suc-le-suc h))

-- ---- reading back

pub length-lengths_in : (n : ℕ) (l : List ℕ) → length (lengths_in n l) ≡ n
unfolding lengths_in
length-lengths_in zero l = refl
length-lengths_in (suc n) l = ap suc (length-lengths_in n (drop 2 l))

pub length-cut-by : (ns l : List ℕ) → length (cut_by ns l) ≡ length ns
unfolding cut_by
length-cut-by [] l = refl
length-cut-by (n ∷ ns) l = ap suc (length-cut-by ns (drop n l))

-- the strings of any cells are 99
pub length-strings_in : (m : List ℕ) → length (strings_in m) ≡ layout.strings_count
unfolding strings_in
length-strings_in m = length-cut-by (lengths_in layout.strings_count m) (drop layout.lengths_bytes m) ∙ length-lengths_in layout.strings_count m

pub lengths_in-lengths : (vs : List (List ℕ)) (t : List ℕ) → lengths_in (length vs) (lengths vs ++ t) ≡ map length vs
unfolding lengths lengths_in
lengths_in-lengths [] t = refl
lengths_in-lengths (v ∷ vs) t = rw (two_back (length v), lengths_in-lengths vs t)

pub cut-by-joined : (vs : List (List ℕ)) (t : List ℕ) → cut_by (map length vs) (joined vs ++ t) ≡ vs
unfolding cut_by
cut-by-joined [] t = refl
cut-by-joined (v ∷ vs) t = rw (append_assoc, take-append_seam v (joined vs ++ t), drop-append_seam v (joined vs ++ t), cut-by-joined vs t)

-- the string at an index lies behind those before it
pub cut_at : (ns l : List ℕ) (k : ℕ) → k < length ns → get_or (cut_by ns l) k [] ≡ take (get_or ns k 0) (drop (total (λ n. n) (take k ns)) l)
unfolding cut_by
cut_at [] l k h = absurd (not-suc-le-zero h)
cut_at (n ∷ ns) l zero h = refl
cut_at (n ∷ ns) l (suc k) h =
    cut_at ns (drop n l) k (le_of_suc-le-suc h) ∙ ap (take (get_or ns k 0)) (drop-drop (total (λ n. n) (take k ns)) n l)

module _ (vs : List (List ℕ)) (n : length vs ≡ layout.strings_count) where
  lengths-long : length (lengths vs) ≡ layout.lengths_bytes
  lengths-long = length-lengths vs ∙ rw n

  -- what is written is read back
  pub strings-back : strings_in (string_cells vs) ≡ vs
  unfolding strings_in string_cells
  strings-back =
      let rest : List ℕ = joined vs ++ replicate (layout.room - used vs) 0 in
      rw (drop_at (lengths vs) rest layout.lengths_bytes lengths-long)
      (ap (λ k. cut_by (lengths_in k (lengths vs ++ rest)) rest) (sym n) ∙ rw (lengths_in-lengths vs rest) (cut-by-joined vs (replicate (layout.room - used vs) 0)))

  pub length-string_cells : used vs ≤ layout.room → length (string_cells vs) ≡ layout.strings_bytes
  unfolding string_cells used
  length-string_cells h = simp (length-append, length-replicate) (omega (arith, lengths-long))

-- ---- the cells are bytes

pub lengths-below : (vs : List (List ℕ)) → Each (λ v. length v < 65536) vs → Below 256 (lengths vs)
unfolding lengths
lengths-below [] h = tt
lengths-below (v ∷ vs) h = below-append 256 (two (length v)) (lengths vs) (two-below (length v) h.0) (lengths-below vs h.1)

pub joined-below : (vs : List (List ℕ)) → Each (Below 256) vs → Below 256 (joined vs)
joined-below [] h = tt
joined-below (v ∷ vs) h = below-append 256 v (joined vs) h.0 (joined-below vs h.1)

pub string_cells-below : (vs : List (List ℕ)) → Each (λ v. length v < 65536) vs → Each (Below 256) vs → Below 256 (string_cells vs)
unfolding string_cells
string_cells-below vs h k =
    let zeros : List ℕ = replicate (layout.room - used vs) 0 in
    below-append 256 (lengths vs) (joined vs ++ zeros) (lengths-below vs h)
    (below-append 256 (joined vs) zeros (joined-below vs k) (below-zeros 256 (layout.room - used vs) (omega arith)))
