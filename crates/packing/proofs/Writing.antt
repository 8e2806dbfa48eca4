-- The laws of writing the strings at rest: the loops that write lengths and strings, and the zeros behind them.
use mathlib.Core.Path.{◌≡◌, refl, ap, ◌∙◌}
use mathlib.Core.List.{List, ◌++◌, append_assoc}
use Prim.Native.Nat.{ℕ, ◌+◌, ◌-◌, ◌*◌, ◌≤◌, ◌<◌}
use native.Mathlib.Numerals.{add-one}
use native.Mathlib.Omega.{arith}
use lib.ListN.{length, take, replicate, length-append, length-replicate}
use lib.Seq.{take-length, length-take-le}
use Rattle.lists.specs.Lists.{joined}
use Rattle.layout.specs.Cells.{two}
use Rattle.layout.specs.Strings.{lengths, used, string_cells}
use Rattle.layout.proofs.StringLaws.{length-lengths}
use Rattle.layout.specs.Places as layout
use Rattle.cells.specs.Cells.{pasted, cleared}
use Rattle.cells.proofs.Laws.{cleared-is, pasted-none, pasted-pasted, pasted-whole}
use Rattle.gaps.specs.Pool.{abs, string, offset}
use Rattle.gaps.proofs.Index.{offset-zero, offset-next, offset-within, offset-all}
use Rattle.gaps.proofs.Laws.{length-abs}
use Rattle.gaps.proofs.Rows.{lengths-next, strings-next}
use Rattle.store.specs.Store.{Long, Whole}
use Rattle.packing.specs.Packing.{Packable, Stringed}

take-upto : (s : List (List ℕ)) (j : ℕ) → length s ≡ layout.strings_count → j ≤ layout.strings_count → layout.strings_count ≤ j → take j s ≡ s
take-upto s j l h k = let q : j ≡ length s = omega arith in rw q (take-length s)

-- the loop that writes the lengths
pub record Lengthing (p e d m : List ℕ) (j : ℕ) : Type 0 where
  pub upto : j ≤ layout.strings_count
  pub long : length m ≡ length d
  pub is : m ≡ pasted d 0 (lengths (take j (abs p e)))

pub lengthing_none : (p e d : List ℕ) → Lengthing p e d d 0
unfolding lengths
lengthing_none p e d = record { upto = omega arith; long = refl; is = pasted-none d 0 }

pub lengthing_more : {p e d m m' : List ℕ} {j n : ℕ} → Packable p e (length d) → Lengthing p e d m j → j < layout.strings_count → Long p e j n → m' ≡ pasted m (2 * j) (two n) → length m' ≡ length m
    → Lengthing p e d m' (j + 1)
lengthing_more {p} {e} {d} {m} {j = j} {n = n} pre u h l q k =
    let s : List (List ℕ) = abs p e in
    let b : j < length s = rw (length-abs p e) h in
    let L : List ℕ = lengths (take j s) in
    let lL : length L ≡ 2 * j = length-lengths (take j s) ∙ ap (λ (x : ℕ). 2 * x) (length-take-le j s (omega arith)) in
    let at : 2 * j ≡ 0 + length L = omega arith in
    let next : lengths (take (j + 1) s) ≡ L ++ two (length (string j s)) = rw add-one (lengths-next s j b) in
    record {
      upto = omega arith;
      long = k ∙ u.long;
      is = q ∙ rw (u.is, at, l.is, next) (pasted-pasted d 0 L (two (length (string j s))) (omega (arith, pre.long)));
    }

pub lengthing_all : {p e d m : List ℕ} {j : ℕ} → Lengthing p e d m j → layout.strings_count ≤ j → m ≡ pasted d 0 (lengths (abs p e))
lengthing_all {p} {e} {j = j} u h = u.is ∙ rw (take-upto (abs p e) j (length-abs p e) u.upto h)

-- the loop that writes the strings
pub record Stringing (p e d m : List ℕ) (at j : ℕ) : Type 0 where
  pub upto : j ≤ layout.strings_count
  pub long : length m ≡ length d
  pub is : m ≡ pasted d layout.lengths_bytes (joined (take j (abs p e)))
  pub place : at ≡ layout.lengths_bytes + offset j (abs p e)

pub stringing_none : (p e d : List ℕ) → Stringing p e d d layout.lengths_bytes 0
stringing_none p e d = record { upto = omega arith; long = refl; is = pasted-none d layout.lengths_bytes; place = omega (arith, offset-zero (abs p e)) }

-- the next string has its place
pub string_room : {p e d m r : List ℕ} {at j : ℕ} → Packable p e (length d) → Stringing p e d m at j → Whole p e j r → at + length r ≤ 32966
string_room {p} {e} {j = j} pre u w = omega (arith, u.place, ap length w.is, offset-within (abs p e) j, pre.fine.fits)

pub stringing_more : {p e d m m' r : List ℕ} {at j : ℕ} → Packable p e (length d) → Stringing p e d m at j → j < layout.strings_count → Whole p e j r → m' ≡ pasted m at r → length m' ≡ length m
    → Stringing p e d m' (at + length r) (j + 1)
unfolding offset used
stringing_more {p} {e} {d} {m} {r = r} {at = at} {j = j} pre u h w q k =
    let s : List (List ℕ) = abs p e in
    let b : j < length s = rw (length-abs p e) h in
    let next : joined (take (j + 1) s) ≡ joined (take j s) ++ r = rw (add-one, w.is) (strings-next s j b) in
    let room : at + length r ≤ 32966 = string_room pre u w in
    record {
      upto = omega arith;
      long = k ∙ u.long;
      is = q ∙ rw (u.is, u.place, next) (pasted-pasted d layout.lengths_bytes (joined (take j s)) r (omega (arith, u.place, pre.long)));
      place = omega (arith, offset-next s j b, u.place, ap length w.is);
    }

pub stringing_all : {p e d m : List ℕ} {at j : ℕ} → Stringing p e d m at j → layout.strings_count ≤ j → Stringed d (abs p e) at m
stringing_all {p} {e} {j = j} u h =
    let q : j ≡ layout.strings_count = omega (arith, u.upto) in
    record { is = u.is ∙ rw (take-upto (abs p e) j (length-abs p e) u.upto h); ends = u.place ∙ rw (q, offset-all (abs p e) layout.strings_count (length-abs p e)) }

-- lengths, strings and zeros are all
pub written : (d m₁ m₂ m₃ : List ℕ) (s : List (List ℕ)) (at : ℕ) → length s ≡ layout.strings_count → used s ≤ 32768 → length d ≡ layout.strings_bytes
    → m₁ ≡ pasted d 0 (lengths s) → Stringed m₁ s at m₂ → m₃ ≡ cleared m₂ at (layout.strings_bytes - at) → m₃ ≡ string_cells s
unfolding string_cells used
written d m₁ m₂ m₃ s at c u l h₁ h₂ h₃ =
    let L : List ℕ = lengths s in
    let J : List ℕ = joined s in
    let Z : List ℕ = replicate (layout.room - length J) 0 in
    let lL : length L ≡ layout.lengths_bytes = length-lengths s ∙ rw c in
    let lZ : length Z ≡ layout.room - length J = length-replicate (layout.room - length J) 0 in
    let b₂ : 0 + (length L + length J) ≤ length d = omega (arith, u) in
    let q₂ : layout.lengths_bytes ≡ 0 + length L = omega arith in
    let two : m₂ ≡ pasted d 0 (L ++ J) = h₂.is ∙ rw h₁ (ap (λ (k : ℕ). pasted (pasted d 0 L) k J) q₂ ∙ pasted-pasted d 0 L J b₂) in
    let q₃ : at ≡ 0 + length (L ++ J) = simp length-append (omega (arith, h₂.ends)) in
    let z : layout.strings_bytes - at ≡ layout.room - length J = omega (arith, h₂.ends) in
    let b₃ : 0 + (length (L ++ J) + length Z) ≤ length d = simp (length-append, length-replicate) (omega (arith, u)) in
    let three : m₃ ≡ pasted d 0 ((L ++ J) ++ Z) = h₃ ∙ cleared-is m₂ at (layout.strings_bytes - at) ∙ rw (z, two, q₃) (pasted-pasted d 0 (L ++ J) Z b₃) in
    let all : length ((L ++ J) ++ Z) ≡ length d = simp (length-append, length-replicate) (omega (arith, u)) in
    three ∙ pasted-whole d ((L ++ J) ++ Z) all ∙ append_assoc L J Z
