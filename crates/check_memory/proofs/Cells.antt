-- Cells that are written as they are read: numbers of two and three cells, and strings with zeros behind them.
use mathlib.Core.Path.{◌≡◌, refl, sym, ap, ◌∙◌}
use mathlib.Core.List.{List, [], ◌∷◌, ◌++◌, map}
use Prim.Native.Nat.{ℕ, zero, suc, ◌+◌, ◌*◌, ◌-◌, ◌%◌, ◌≤◌, ◌<◌}
use native.Mathlib.Nat.{not-suc-le-zero, le_of_suc-le-suc}
use native.Mathlib.Omega.{arith}
use lib.Dec.{T, eqb, eqb→eq}
use lib.ListN.{length, get_or, take, drop, replicate, length-drop, take-append-drop}
use lib.Seq.{get_or-drop, length-take-le, take-add, drop-drop}
use Rattle.check_strings.proofs.ComponentWalks.{bytes_drop}
use Rattle.check_strings.proofs.RecordWalks.{two_cells, three-front}
use Rattle.check_strings.specs.Sound.{Bytes}
use Rattle.layout.specs.Cells.{two, two_at, three, three_at}
use Rattle.layout.specs.Memory.{threes_in, twos_in}
use Rattle.layout.proofs.StringLaws.{used-cons}
use Rattle.layout.specs.Strings.{lengths, used, string_cells, lengths_in, cut_by, strings_in}
use Rattle.layout.specs.Places as layout
use Rattle.lists.specs.ListLaws.{T-left, T-right}
use Rattle.lists.specs.Lists.{each, joined}
use Rattle.check_memory.specs.Passes.{sum, zeros}

-- ---- numbers

three-drop : (k j : ℕ) (m : List ℕ) → three_at j (drop k m) ≡ three_at (k + j) m
three-drop k j m =
    let a : k + (1 + j) ≡ 1 + (k + j) = omega arith in
    let b : k + (2 + j) ≡ 2 + (k + j) = omega arith in
    rw (get_or-drop k m j 0, get_or-drop k m (1 + j) 0, get_or-drop k m (2 + j) 0, a, b)

-- scalar i of n
pub threes-at : (n i : ℕ) (m : List ℕ) → i < n → get_or (threes_in n m) i 0 ≡ three_at (3 * i) m
unfolding threes_in
threes-at zero i m h = absurd (not-suc-le-zero h)
threes-at (suc n) zero m h = refl
threes-at (suc n) (suc i) m h =
    let e : 3 + 3 * i ≡ 3 * suc i = omega arith in
    threes-at n i (drop 3 m) (le_of_suc-le-suc h) ∙ three-drop 3 (3 * i) m ∙ ap (λ k. three_at k m) e

pub each-threes : (n : ℕ) (m : List ℕ) → 3 * n ≤ length m → Bytes m → each three (threes_in n m) ≡ take (3 * n) m
unfolding threes_in
each-threes zero m h b = refl
each-threes (suc n) m h b =
    let e : 3 * suc n ≡ 3 + 3 * n = omega arith in
    let r : each three (threes_in n (drop 3 m)) ≡ take (3 * n) (drop 3 m) = each-threes n (drop 3 m) (rw (length-drop 3 m) (omega arith)) (bytes_drop 3 m b) in
    ap (λ l. three (three_at layout.plus_cell m) ++ l) r ∙ ap (λ l. l ++ take (3 * n) (drop 3 m)) (sym (three-front m (omega (arith, h)) b)) ∙ sym (take-add 3 (3 * n) m) ∙ ap (λ k. take k m) (sym e)

each-lengths : (n : ℕ) (m : List ℕ) → 2 * n ≤ length m → Bytes m → each two (lengths_in n m) ≡ take (2 * n) m
unfolding lengths_in
each-lengths zero m h b = refl
each-lengths (suc n) m h b =
    let e : 2 * suc n ≡ 2 + 2 * n = omega arith in
    let r : each two (lengths_in n (drop 2 m)) ≡ take (2 * n) (drop 2 m) = each-lengths n (drop 2 m) (rw (length-drop 2 m) (omega arith)) (bytes_drop 2 m b) in
    ap (λ l. two (two_at 0 m) ++ l) r ∙ ap (λ l. l ++ take (2 * n) (drop 2 m)) (sym (two_cells m (omega (arith, h)) b)) ∙ sym (take-add 2 (2 * n) m) ∙ ap (λ k. take k m) (sym e)

-- the stack: an even count of cells
pub each-twos : (v : List ℕ) → length v % 2 ≡ 0 → Bytes v → each two (twos_in v) ≡ v
unfolding twos_in
each-twos [] h b = refl
each-twos (x ∷ []) h b = absurd (omega (arith, h))
each-twos (x ∷ y ∷ v) h b =
    let e = two_cells (x ∷ y ∷ v) (omega arith) b in
    let r : each two (twos_in v) ≡ v = each-twos v (omega (arith, h)) (bytes_drop 2 (x ∷ y ∷ v) b) in
    ap (λ l. two (x + 256 * y) ++ l) r ∙ ap (λ l. l ++ v) (sym e)

-- ---- strings

pub lengths-each : (vs : List (List ℕ)) → lengths vs ≡ each two (map length vs)
unfolding lengths
lengths-each [] = refl
lengths-each (v ∷ vs) = ap (λ l. two (length v) ++ l) (lengths-each vs)

pub sum-lengths : (vs : List (List ℕ)) → sum (map length vs) ≡ used vs
unfolding used
sum-lengths [] = refl
sum-lengths (v ∷ vs) = omega (arith, sum-lengths vs, used-cons v vs)

cut-lengths : (ns l : List ℕ) → sum ns ≤ length l → map length (cut_by ns l) ≡ ns
unfolding cut_by
cut-lengths [] l h = refl
cut-lengths (n ∷ ns) l h =
    let a : length (take n l) ≡ n = length-take-le n l (omega (arith, h)) in
    let b : map length (cut_by ns (drop n l)) ≡ ns = cut-lengths ns (drop n l) (rw (length-drop n l) (omega (arith, h))) in
    rw (a, b)

cut-joined : (ns l : List ℕ) → joined (cut_by ns l) ≡ take (sum ns) l
unfolding cut_by
cut-joined [] l = refl
cut-joined (n ∷ ns) l = ap (λ u. take n l ++ u) (cut-joined ns (drop n l)) ∙ sym (take-add n (sum ns) l)

zeros-are : (l : List ℕ) → T (zeros l) → l ≡ replicate (length l) 0
zeros-are [] h = refl
zeros-are (x ∷ l) h =
    let e : x ≡ 0 = eqb→eq x 0 (T-left (eqb x 0) (zeros l) h) in
    let r : l ≡ replicate (length l) 0 = zeros-are l (T-right (eqb x 0) (zeros l) h) in
    ap (λ y. y ∷ l) e ∙ ap (λ u. 0 ∷ u) r

pub replicated-zeros : (n : ℕ) → T (zeros (replicate n 0))
replicated-zeros zero = tt
replicated-zeros (suc n) = replicated-zeros n

module _ (d : List ℕ) (long : length d ≡ layout.strings_bytes) (b : Bytes d) (room : sum (lengths_in layout.strings_count d) ≤ layout.room) (z : T (zeros (drop (layout.lengths_bytes + sum (lengths_in layout.strings_count d)) d))) where
  abbrev ns : List ℕ
  ns = lengths_in layout.strings_count d

  pool-long : length (drop layout.lengths_bytes d) ≡ layout.room
  pool-long = length-drop layout.lengths_bytes d ∙ rw long

  front : lengths (strings_in d) ≡ take layout.lengths_bytes d
  unfolding strings_in
  front = lengths-each (cut_by ns (drop layout.lengths_bytes d)) ∙ ap (each two) (cut-lengths ns (drop layout.lengths_bytes d) (omega (arith, room, pool-long))) ∙ each-lengths layout.strings_count d (omega (arith, long)) b

  middle : joined (strings_in d) ≡ take (sum ns) (drop layout.lengths_bytes d)
  unfolding strings_in
  middle = cut-joined ns (drop layout.lengths_bytes d)

  pub used_is : used (strings_in d) ≡ sum ns
  unfolding used
  used_is = ap length middle ∙ length-take-le (sum ns) (drop layout.lengths_bytes d) (omega (arith, room, pool-long))

  behind : replicate (layout.room - used (strings_in d)) 0 ≡ drop (sum ns) (drop layout.lengths_bytes d)
  behind =
      let r : List ℕ = drop (layout.lengths_bytes + sum ns) d in
      let n : length r ≡ layout.room - used (strings_in d) = length-drop (layout.lengths_bytes + sum ns) d ∙ omega (arith, long, used_is, room) in
      ap (λ k. replicate k 0) (sym n) ∙ sym (zeros-are r z) ∙ sym (drop-drop (sum ns) layout.lengths_bytes d)

  -- the strings with zeros behind them are written as they are read
  pub string_cells-back : string_cells (strings_in d) ≡ d
  unfolding string_cells
  string_cells-back =
      let p : List ℕ = drop layout.lengths_bytes d in
      let e : joined (strings_in d) ++ replicate (layout.room - used (strings_in d)) 0 ≡ p =
      ap (λ u. u ++ replicate (layout.room - used (strings_in d)) 0) middle ∙ ap (λ u. take (sum ns) p ++ u) behind ∙ take-append-drop (sum ns) p in
      ap (λ u. lengths (strings_in d) ++ u) e ∙ ap (λ u. u ++ p) front ∙ take-append-drop layout.lengths_bytes d
