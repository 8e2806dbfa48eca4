-- Where the strings start, and the string at a place.
use mathlib.Core.Path.{◌≡◌, refl, sym, ap, ◌∙◌}
use mathlib.Core.List.{List}
use Prim.Native.Nat.{ℕ, zero, suc, ◌+◌, ◌*◌, ◌-◌, ◌≤◌, ◌<◌}
use native.Mathlib.Decide.{dec_lt}
use native.Mathlib.Nat.{not-suc-le-zero, le_of_suc-le-suc}
use native.Mathlib.Omega.{arith}
use lib.ListN.{length, get_or, take, drop, set, length-set, length-take}
use lib.Seq.{get_or-drop, get_or-set_same, get_or-set_other, take_all, drop-drop}
use Rattle.cells.specs.Cells.{Number}
use Rattle.layout.specs.Cells.{two_at}
use Rattle.layout.specs.Strings.{lengths_in, strings_in}
use Rattle.check_memory.specs.Passes.{sizes, sum}
use Rattle.check_memory.specs.Reads.{Started, Readable, StringLent}
use Rattle.lists.specs.SumLaws.{total-next, total-within}
use Rattle.layout.proofs.StringLaws.{length-lengths_in, cut_at}
use Rattle.layout.specs.Places as layout

-- ---- lengths

two-drop : (k j : ℕ) (m : List ℕ) → two_at j (drop k m) ≡ two_at (k + j) m
two-drop k j m =
    let a : k + (1 + j) ≡ 1 + (k + j) = omega arith in
    rw (get_or-drop k m j 0, get_or-drop k m (1 + j) 0, a)

lengths-at : (n i : ℕ) (d : List ℕ) → i < n → get_or (lengths_in n d) i 0 ≡ two_at (2 * i) d
unfolding lengths_in
lengths-at zero i d h = absurd (not-suc-le-zero h)
lengths-at (suc n) zero d h = refl
lengths-at (suc n) (suc i) d h =
    let e : 2 + 2 * i ≡ 2 * suc i = omega arith in
    lengths-at n i (drop 2 d) (le_of_suc-le-suc h) ∙ two-drop 2 (2 * i) d ∙ ap (λ k. two_at k d) e

pub size_at : (m : List ℕ) (i : ℕ) → i < layout.strings_count → two_at (layout.first_length + 2 * i) m ≡ get_or (sizes m) i 0
size_at m i h = sym (two-drop layout.first_length (2 * i) m) ∙ sym (lengths-at layout.strings_count i (drop layout.first_length m) h)

length-sizes : (m : List ℕ) → length (sizes m) ≡ layout.strings_count
length-sizes m = length-lengths_in layout.strings_count (drop layout.first_length m)

-- ---- the loop that writes the starts

pub record Starting (m st : List ℕ) (at i : ℕ) : Type 0 where
  pub upto : i ≤ layout.strings_count
  pub count : length st ≡ layout.strings_count
  pub place : (k : ℕ) → k < i → get_or st k 0 ≡ layout.first_byte + sum (take k (sizes m))
  pub next : at ≡ layout.first_byte + sum (take i (sizes m))
  pub small : at ≤ layout.first_byte + 65536 * i

pub starting-none : (m st : List ℕ) → length st ≡ layout.strings_count → Starting m st layout.first_byte 0
starting-none m st n = record { upto = omega arith; count = n; place = λ k h. absurd (not-suc-le-zero h); next = refl; small = omega arith }

pub starting-next : {m st : List ℕ} {at i : ℕ} → Starting m st at i → i < layout.strings_count → {n : ℕ} → Number (two_at (layout.first_length + 2 * i) m) 65536 n → {st' : List ℕ} → st' ≡ set st i at
    → Starting m st' (at + n) (i + 1)
starting-next {m} {st} {at} {i} g h {n} q {st'} w =
    let e : n ≡ get_or (sizes m) i 0 = q.is ∙ size_at m i h in
    record {
      upto = omega arith;
      count = ap length w ∙ length-set st i at ∙ g.count;
      place = λ k b. go k b (dec_lt k i);
      next = omega (arith, e, g.next, total-next (λ n. n) 0 (sizes m) i (omega (arith, length-sizes m)));
      small = omega (arith, g.small, q.most);
    }
  where
    go : (k : ℕ) → k < i + 1 → Dec (k < i) → get_or st' k 0 ≡ layout.first_byte + sum (take k (sizes m))
    go k b (yes c) = ap (λ (u : List ℕ). get_or u k 0) w ∙ get_or-set_other st i k at 0 (λ z. omega (arith, z)) ∙ g.place k c
    go k b (no c) =
        let z : k ≡ i = omega arith in
        ap (λ (u : List ℕ). get_or u k 0) w ∙ ap (λ o. get_or (set st i at) o 0) z ∙ get_or-set_same st i at 0 (omega (arith, g.count)) ∙ g.next ∙ ap (λ o. layout.first_byte + sum (take o (sizes m))) (sym z)

pub started : {m st : List ℕ} {at i : ℕ} → Starting m st at i → layout.strings_count ≤ i → Started m st at
started {m} {st} {at} {i} g h =
    let e : i ≡ layout.strings_count = omega (arith, g.upto) in
    let t : take i (sizes m) ≡ sizes m = take_all i (sizes m) (omega (arith, length-sizes m)) in
    record { count = g.count; place = λ k b. g.place k (omega arith); ends = g.next ∙ ap (λ ns. layout.first_byte + sum ns) t }

-- ---- the string at a place

module _ {m st : List ℕ} {k : ℕ} (h : Readable m st) (b : k < layout.strings_count) {from n : ℕ} (a : Number (get_or st k 0) 4294967296 from) (q : Number (two_at (layout.first_length + 2 * k) m) 65536 n) where
  from_is : from ≡ layout.first_byte + sum (take k (sizes m))
  from_is = a.is ∙ h.place k b

  n-is : n ≡ get_or (sizes m) k 0
  n-is = q.is ∙ size_at m k b

  pub string_within : from + n ≤ length m
  string_within =
      let few : k < length (sizes m) = omega (arith, b, length-sizes m) in
      omega (arith, from_is, n-is, total-next (λ n. n) 0 (sizes m) k few, total-within (λ n. n) (sizes m) (k + 1), h.room, h.long)

  pub string_lent : StringLent m k (take (from + n - from) (drop from m))
  unfolding strings_in
  string_lent =
      let e : from + n - from ≡ get_or (sizes m) k 0 = omega (arith, n-is) in
      let d : drop from m ≡ drop (sum (take k (sizes m))) (drop layout.lengths_bytes (drop layout.first_length m)) =
      ap (λ o. drop o m) from_is ∙ sym (drop-drop (sum (take k (sizes m))) layout.first_byte m) ∙ ap (drop (sum (take k (sizes m)))) (sym (drop-drop layout.lengths_bytes layout.first_length m)) in
      record {
        is = ap (λ o. take o (drop from m)) e ∙ ap (take (get_or (sizes m) k 0)) d ∙ sym (cut_at (sizes m) (drop layout.lengths_bytes (drop layout.first_length m)) k (omega (arith, b, length-sizes m)));
        small = simp length-take (omega (arith, q.most));
      }
