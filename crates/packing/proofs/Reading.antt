-- The laws of reading the strings at rest: what `pack` writes, `unpack` reads.
use mathlib.Core.Path.{◌≡◌, refl, sym, ap, ◌∙◌}
use mathlib.Core.List.{List, [], ◌++◌, append_assoc}
use Prim.Native.Nat.{ℕ, suc, ◌+◌, ◌-◌, ◌*◌, ◌≤◌, ◌<◌}
use native.Mathlib.Omega.{arith}
use lib.ListN.{length, take, drop, get_or, replicate, get_or-append}
use lib.Seq.{drop_at, drop-drop, take-append_seam, drop-append_seam}
use Rattle.lists.specs.Lists.{joined}
use Rattle.layout.specs.Cells.{two_at}
use Rattle.layout.proofs.CellLaws.{two_back}
use Rattle.layout.specs.Strings.{lengths, used, string_cells, strings_in}
use Rattle.layout.proofs.StringLaws.{joined-split, length-lengths, lengths-low, lengths-high, length-strings_in, length-string_cells}
use Rattle.layout.specs.Places as layout
use Rattle.cells.specs.Cells.{Number}
use Rattle.gaps.specs.Pool.{string, offset, Holds}
use Rattle.gaps.specs.Gaps.{LaidOne}
use Rattle.gaps.proofs.Index.{offset-zero, offset-next, offset-within}
use Rattle.gaps.proofs.Spread.{Laid, laid_none, laid_more, laid-all}
use Rattle.packing.specs.Packing.{Packed, Unpackable}

-- where each string lies

module _ {m : List ℕ} (h : Packed m) where
  pub packed-long : length m ≡ layout.strings_bytes
  packed-long = ap length h.is ∙ length-string_cells (strings_in m) (length-strings_in m) (omega (arith, h.fits))

  lengths-long : length (lengths (strings_in m)) ≡ layout.lengths_bytes
  lengths-long = length-lengths (strings_in m) ∙ rw length-strings_in

  at-strings : drop layout.lengths_bytes m ≡ joined (strings_in m) ++ replicate (layout.room - used (strings_in m)) 0
  unfolding string_cells
  at-strings = ap (drop layout.lengths_bytes) h.is ∙ drop_at (lengths (strings_in m)) _ layout.lengths_bytes lengths-long

  length-cell : (k : ℕ) → k < layout.lengths_bytes → get_or m k 0 ≡ get_or (lengths (strings_in m)) k 0
  unfolding string_cells
  length-cell k b = ap (λ (l : List ℕ). get_or l k 0) h.is ∙ get_or-append (lengths (strings_in m)) _ 0 k (rw lengths-long b)

  pub length-read : (j : ℕ) → j < layout.strings_count → two_at (2 * j) m ≡ length (string j (strings_in m))
  length-read j b =
      let b' : j < length (strings_in m) = rw (length-strings_in m) b in
      let q : 1 + 2 * j ≡ 2 * j + 1 = omega arith in
      rw (q, length-cell (2 * j) (omega arith), length-cell (2 * j + 1) (omega arith), lengths-low (strings_in m) j b', lengths-high (strings_in m) j b')
      (two_back (length (string j (strings_in m))))

  -- string j, of length n, stands from cell `from` on
  pub string-read : (j n from : ℕ) → j < layout.strings_count → from ≡ layout.lengths_bytes + offset j (strings_in m) → n ≡ length (string j (strings_in m)) → take n (drop from m) ≡ string j (strings_in m)
  unfolding offset used
  string-read j n from b q k =
      let s : List (List ℕ) = strings_in m in
      let b' : j < length s = rw (length-strings_in m) b in
      let Z : List ℕ = replicate (layout.room - used s) 0 in
      let all : drop layout.lengths_bytes m ≡ joined (take j s) ++ (get_or s j [] ++ (joined (drop (suc j) s) ++ Z)) =
      at-strings ∙ ap (λ (l : List ℕ). l ++ Z) (joined-split s j b') ∙ simp append_assoc in
      rw (q, k, ← drop-drop (length (joined (take j s))) layout.lengths_bytes m, all, drop-append_seam (joined (take j s)) (get_or s j [] ++ (joined (drop (suc j) s) ++ Z)))
      (take-append_seam (get_or s j []) (joined (drop (suc j) s) ++ Z))

-- the loop that unpacks

pub record Unpacking (m p₀ p e : List ℕ) (at from j : ℕ) : Type 0 where
  pub upto : j ≤ layout.strings_count
  pub long : length p ≡ length p₀
  pub cells : length e ≡ layout.ends_count
  pub laid : Laid p e j at (strings_in m)
  pub place : at ≡ 320 * j + offset j (strings_in m)
  pub source : from ≡ layout.lengths_bytes + offset j (strings_in m)

pub unpacking_none : (m p e : List ℕ) → length e ≡ layout.ends_count → Unpacking m p p e 0 layout.lengths_bytes 0
unpacking_none m p e l = record {
  upto = omega arith;
  long = refl;
  cells = l;
  laid = laid_none 0 l;
  place = omega (arith, offset-zero (strings_in m));
  source = omega (arith, offset-zero (strings_in m));
}

-- the numbers of a turn
pub record Turn (m p e : List ℕ) (at from j n : ℕ) : Type 0 where
  pub is : n ≡ length (string j (strings_in m))
  pub room : at + 320 + n ≤ 65536
  pub within : from + n ≤ layout.strings_bytes
  pub long : length m ≡ layout.strings_bytes
  pub size : length p ≡ 65536
  pub cells : length e ≡ layout.ends_count

module _ {m p₀ p e : List ℕ} {at from j n b : ℕ} (pre : Unpackable m (length p₀) b) (u : Unpacking m p₀ p e at from j) (h : j < layout.strings_count) (r : Number (two_at (2 * j) m) 65536 n) where
  pub turn_numbers : Turn m p e at from j n
  turn_numbers =
      let q : n ≡ length (string j (strings_in m)) = r.is ∙ length-read pre.packed j h in
      let w = offset-within (strings_in m) j in
      record {
        is = q;
        room = omega (arith, u.place, pre.packed.fits);
        within = omega (arith, u.source, pre.packed.fits);
        long = packed-long pre.packed;
        size = u.long ∙ pre.size;
        cells = u.cells;
      }

  pub unpacking_more : {p' e' : List ℕ} → LaidOne p e j (at + 320) (take ((from + n) - from) (drop from m)) p' e' → length p' ≡ length p → Unpacking m p₀ p' e' (at + 320 + n) (from + n) (j + 1)
  unpacking_more o l =
      let t = turn_numbers in
      let k : ℕ = (from + n) - from in
      let s : List (List ℕ) = strings_in m in
      let B : List ℕ = take k (drop from m) in
      let is : B ≡ string j s = string-read pre.packed j k from h u.source (omega (arith, t.is)) in
      let lB : length B ≡ n = ap length is ∙ sym t.is in
      let in_p : (at + 320) + length B ≤ length p = omega (arith, t.room, t.size) in
      let le : at ≤ at + 320 = omega arith in
      let more = laid_more u.laid h le in_p is o in
      let next : offset (j + 1) s ≡ offset j s + length (string j s) = offset-next s j (rw (length-strings_in m) h) in
      record {
        upto = omega arith;
        long = l ∙ u.long;
        cells = more.cells;
        laid = rw lB at more;
        place = omega (arith, next, u.place, t.is);
        source = omega (arith, next, u.source, t.is);
      }

pub unpacked : {m p₀ p e : List ℕ} {at from j b : ℕ} → Unpackable m (length p₀) b → Unpacking m p₀ p e at from j → layout.strings_count ≤ j → Holds p e (strings_in m)
unpacked {m} {j = j} pre u h =
    let q : j ≡ layout.strings_count = omega (arith, u.upto) in
    laid-all (rw q at u.laid) (omega (arith, u.place, offset-within (strings_in m) j, pre.packed.fits)) (u.long ∙ pre.size) (length-strings_in m) pre.packed.fits
