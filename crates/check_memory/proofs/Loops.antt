-- The turns of the loops over the strings of expressions and files.
use Rattle.std.specs.declared.ops.Range.{Range}
use denote.Param.Members.{Mut}
use Rattle.std.specs.List.{list_all, range_with_len}
use mathlib.Core.Path.{◌≡◌, refl, sym, ap, ◌∙◌, subst}
use mathlib.Core.Bool.{Bool, true, false, ◌&&◌, and-true, and-false}
use mathlib.Core.List.{List, [], ◌∷◌, ◌++◌, append-nil, append_assoc}
use Prim.Native.Nat.{ℕ, zero, suc, ◌+◌, ◌*◌, ◌-◌, ◌≤◌, ◌<◌}
use native.Mathlib.Nat.{not-suc-le-zero, le_of_suc-le-suc}
use native.Mathlib.Omega.{arith}
use lib.Dec.{leb, eqb}
use lib.ListN.{length, get_or, take, drop, length-take, length-drop}
use lib.Seq.{get_or-take, get_or-drop, take_all, length-take-le}
use borrow.Author.Tests.{le-leb, lt-leb, lt-ltb, le-ltb}
use Rattle.std.proofs.Math.Decide.{dec_lt}
use Rattle.std.proofs.Math.Seq.{take-append-add}
use Rattle.std.proofs.lemmas.List.{take-append-le}
use Rattle.cells.specs.Cells.{Number}
use Rattle.check_addresses.specs.Collected.{Collectable, Collected}
use Rattle.language.specs.Limits as limit
use Rattle.layout.specs.Bounds.{Each, WholeComponents, WholeRecords}
use Rattle.layout.proofs.CellLaws.{each_in}
use Rattle.layout.specs.Cells.{three_at}
use Rattle.layout.specs.Components.{components_in, records_in, addresses_in}
use Rattle.layout.specs.Places as layout
use Rattle.lists.specs.ListLaws.{total-split}
use Rattle.lists.specs.Lists.{total, all, each}
use Rattle.lists.specs.SumLaws.{total-next}
use Rattle.lists.specs.RangeLaws.{AllRan, TestsBy, all_in_range}
use Rattle.machine.specs.Arguments.{everything}
use Rattle.machine.specs.WellFormed.{different}
use Rattle.matching.specs.declared.Taken.{Taken}
use Rattle.matching.specs.Tests.{Took}
use Rattle.records.proofs.Walking.{all-taken}
use Rattle.records.specs.declared.Sequence.{Sequence}
use Rattle.components.specs.declared.Amount.{Amount}
use Rattle.records.specs.Sequences.{part_total, char_total, TookRecords, Totalled}
use Rattle.check_memory.specs.Passes.{sizes, sum, zeros, laid, all_strings, expressions, halves, expression_parts, expression_chars, distinct}
use Rattle.check_memory.specs.Reads.{Ended, StringLent, by_string, StringSums, AllSums, Comparable}
use Rattle.check_memory.specs.declared.Sums.{Sums}
use Rattle.check_memory.proofs.Readings.{length-expressions, length-halves}

-- ---- the cells

pub laid_beyond : {m : List ℕ} {e : ℕ} → Ended m e → limit.state < e → false ≡ laid m
unfolding laid
laid_beyond {m} {e} h k =
    let c : leb (sum (sizes m)) layout.room ≡ false = lt-leb (sum (sizes m)) layout.room (omega (arith, h.is)) in
    let ab : Bool = leb (three_at layout.plus_cell m) 1 && leb (three_at layout.last_cell m) limit.addresses in
    sym (ap (λ t. ab && t && zeros (drop (layout.first_byte + sum (sizes m)) m)) c ∙ ap (λ t. t && zeros (drop (layout.first_byte + sum (sizes m)) m)) (and-false ab))

pub laid_within : {m : List ℕ} {e : ℕ} → Ended m e → e ≤ limit.state → {x y : ℕ} → Number (three_at layout.plus_cell m) 16777216 x → Number (three_at layout.last_cell m) 16777216 y → {t : Bool} → t ≡ zeros (take (length m - e) (drop e m))
    → leb x 1 && leb y 8388607 && t ≡ laid m
unfolding laid
laid_within {m} {e} h k {x} {y} a b {t} z =
    let c : leb (sum (sizes m)) layout.room ≡ true = le-leb (sum (sizes m)) layout.room (omega (arith, h.is)) in
    let ab : Bool = leb (three_at layout.plus_cell m) 1 && leb (three_at layout.last_cell m) limit.addresses in
    let d : take (length m - e) (drop e m) ≡ drop (layout.first_byte + sum (sizes m)) m = take_all (length m - e) (drop e m) (rw (length-drop e m) (omega arith)) ∙ ap (λ n. drop n m) h.is in
    let u : Bool = zeros (drop (layout.first_byte + sum (sizes m)) m) in
    ap (λ n. leb n 1 && leb y 8388607 && t) a.is
    ∙ ap (λ n. leb (three_at layout.plus_cell m) 1 && leb n 8388607 && t) b.is
    ∙ ap (λ q. ab && q) (z ∙ ap zeros d)
    ∙ sym (ap (λ q. ab && q && u) c ∙ ap (λ q. q && u) (and-true ab))

-- expression i, and half a file

pub expression-at : (m : List ℕ) (i : ℕ) → i < 32 → get_or (expressions m) i [] ≡ get_or (all_strings m) i []
expression-at m i h = get_or-take 32 (all_strings m) i [] h

pub half_at : (m : List ℕ) (i : ℕ) → i < 64 → get_or (halves m) i [] ≡ get_or (all_strings m) (32 + i) []
half_at m i h = get_or-take 64 (drop 32 (all_strings m)) i [] h ∙ get_or-drop 32 (all_strings m) i []

-- the tests in code: what `(0..n).all(..)` answers of the elements of xs, of a closure that is f
module _ {X : Type 0} (d : X) (f : ℕ → Bool) (p : X → Bool) where
  all_from : (xs : List X) (s : ℕ) → ((i : ℕ) → i < length xs → f (s + i) ≡ p (get_or xs i d)) → list_all f (range_with_len s (length xs)) ≡ all p xs
  all_from [] s e = refl
  all_from (x ∷ xs) s e =
      let z : s + 0 ≡ s = omega arith in
      let first : f s ≡ p x = sym (ap f z) ∙ e 0 (omega arith) in
      let others : list_all f (range_with_len (s + 1) (length xs)) ≡ all p xs =
      all_from xs (s + 1) (λ i h. let y : s + 1 + i ≡ s + suc i = omega arith in ap f y ∙ e (suc i) (omega (arith, h))) in
      rw (first, others) refl

  module _ (xs : List X) (n : ℕ) (long : length xs ≡ n) (same : (i : ℕ) → i < n → f i ≡ p (get_or xs i d)) where
    tests : list_all f (range_with_len 0 n) ≡ all p xs
    tests =
        let e : list_all f (range_with_len 0 (length xs)) ≡ all p xs = all_from xs 0 (λ i h. let z : 0 + i ≡ i = omega arith in ap f z ∙ same i (omega (arith, h, long))) in
        ap (λ k. list_all f (range_with_len 0 k)) (sym long) ∙ e

    pub tests_all : {F : Type 0} {g : Mut F (ℕ × Unit {0}) Bool} (u : Range ℕ) (closure : F) (r : Bool) → AllRan g closure 0 n u r → TestsBy g closure f → r ≡ all p xs
    tests_all u closure r ran is = all_in_range f 0 n n (omega arith) u closure r ran is ∙ tests

module _ {m : List ℕ} {i : ℕ} {r : List ℕ} where
  pub lent-expression : i < 32 → StringLent m i r → r ≡ get_or (expressions m) i []
  lent-expression h s = s.is ∙ sym (expression-at m i h)

  pub lent-half : i < 64 → StringLent m (32 + i) r → r ≡ get_or (halves m) i []
  lent-half h s = s.is ∙ sym (half_at m i h)

-- ---- sums

module _ (f g : List ℕ → ℕ) (m : List ℕ) (i : ℕ) where
  by-expression : i < 32 → by_string f g m i ≡ f (get_or (all_strings m) i [])
  by-expression h = rw (lt-ltb i 32 h) refl

  by-file : 32 ≤ i → by_string f g m i ≡ g (get_or (all_strings m) i [])
  by-file h = rw (le-ltb i 32 h) refl

-- a is the sum over the first i strings, of f over expressions and of g over those of files
pub record Adding (f g : List ℕ → ℕ) (m : List ℕ) (i a : ℕ) : Type 0 where
  pub is : a ≡ total f (take i (expressions m)) + total g (take (i - 32) (halves m))
  pub most : a ≤ 65536 * i

adding-none : (f g : List ℕ → ℕ) (m : List ℕ) → Adding f g m 0 0
adding-none f g m = record { is = refl; most = omega arith }

module _ {f g : List ℕ → ℕ} {m : List ℕ} {i a : ℕ} (w : Adding f g m i a) where
  adding-next : i < 96 → {n : ℕ} → n ≡ by_string f g m i → n < 65536 → Adding f g m (i + 1) (a + n)
  adding-next h {n} e b = go (dec_lt i 32)
    where
      go : Dec (i < 32) → Adding f g m (i + 1) (a + n)
      go (yes k) =
          let v : n ≡ f (get_or (expressions m) i []) = e ∙ by-expression f g m i k ∙ ap f (sym (expression-at m i k)) in
          let z : i + 1 - 32 ≡ i - 32 = omega arith in
          record {
            is = omega (arith, w.is, total-next f [] (expressions m) i (omega (arith, length-expressions m)), v, ap (λ j. total g (take j (halves m))) z);
            most = omega (arith, w.most);
          }
      go (no k) =
          let y : 32 + (i - 32) ≡ i = omega arith in
          let z : i + 1 - 32 ≡ i - 32 + 1 = omega arith in
          let half : get_or (halves m) (i - 32) [] ≡ get_or (all_strings m) i [] = half_at m (i - 32) (omega arith) ∙ ap (λ j. get_or (all_strings m) j []) y in
          let v : n ≡ g (get_or (halves m) (i - 32) []) = e ∙ by-file f g m i (omega arith) ∙ ap g (sym half) in
          let t : take (i + 1) (expressions m) ≡ take i (expressions m) =
          take_all (i + 1) (expressions m) (omega (arith, length-expressions m)) ∙ sym (take_all i (expressions m) (omega (arith, length-expressions m))) in
          record {
            is = omega (
              arith,
              w.is,
              total-next g [] (halves m) (i - 32) (omega (arith, length-halves m)),
              v,
              ap (λ j. total g (take j (halves m))) z,
              ap (total f) t,
            );
            most = omega (arith, w.most);
          }

  adding-end : 96 ≤ i → a ≡ total f (expressions m) + total g (halves m)
  adding-end h =
      let t = take_all i (expressions m) (omega (arith, length-expressions m)) in
      let u = take_all (i - 32) (halves m) (omega (arith, length-halves m)) in
      w.is ∙ (λ j. total f (t j) + total g (u j))

-- what the first i strings hold
pub record StringsAdded (m : List ℕ) (i a b c : ℕ) : Type 0 where
  pub upto : i ≤ 96
  pub parts : Adding expression_parts (λ v. part_total (records_in v)) m i a
  pub chars : Adding expression_chars (λ v. char_total (records_in v)) m i b
  pub count : Adding (λ v. 0) (λ v. length (records_in v)) m i c

pub strings-none : (m : List ℕ) → StringsAdded m 0 0 0 0
strings-none m = record {
  upto = omega arith;
  parts = adding-none expression_parts (λ v. part_total (records_in v)) m;
  chars = adding-none expression_chars (λ v. char_total (records_in v)) m;
  count = adding-none (λ v. 0) (λ v. length (records_in v)) m;
}

none-total : (xs : List (List ℕ)) → total (λ v. 0) xs ≡ 0
none-total [] = refl
none-total (x ∷ xs) = omega (arith, none-total xs)

module _ {m : List ℕ} {i a b c : ℕ} (w : StringsAdded m i a b c) where
  pub strings-next : i < 96 → {r : Sums} → StringSums m i r → StringsAdded m (i + 1) (a + r.parts) (b + r.chars) (c + r.records)
  strings-next h s = record {
    upto = omega arith;
    parts = adding-next w.parts h s.parts_is s.parts_most;
    chars = adding-next w.chars h s.chars_is s.chars_most;
    count = adding-next w.count h s.records_is s.records_most;
  }

  pub all-sums : 96 ≤ i → AllSums m (record { parts = a; chars = b; records = c })
  all-sums h = record {
    parts_is = adding-end w.parts h;
    chars_is = adding-end w.chars h;
    records_is = omega (arith, adding-end w.count h, none-total (expressions m));
    parts_most = omega (arith, w.parts.most, w.upto);
    chars_most = omega (arith, w.chars.most, w.upto);
    records_most = omega (arith, w.count.most, w.upto);
  }

-- what one string holds
module _ {m : List ℕ} (w : Each WholeComponents (expressions m)) {i : ℕ} (h : i < 32) {r : List ℕ} (q : StringLent m i r) where
  pub whole-expression : WholeComponents r
  whole-expression = subst WholeComponents (sym (lent-expression h q)) (each_in WholeComponents (expressions m) w i [] (omega (arith, length-expressions m)))

  pub expression-sums : {t : Taken} → Took everything (components_in r) t → StringSums m i (record { parts = t.amount.parts; chars = t.amount.chars; records = 0 })
  expression-sums k =
      let x = all-taken {s = r} {xs = components_in r} {c = r} (record { cells = whole-expression; most = omega arith; small = q.small }) k in
      record {
        parts_is = x.parts_is ∙ ap expression_parts q.is ∙ sym (by-expression expression_parts (λ v. part_total (records_in v)) m i h);
        chars_is = x.chars_is ∙ ap expression_chars q.is ∙ sym (by-expression expression_chars (λ v. char_total (records_in v)) m i h);
        records_is = sym (by-expression (λ v. 0) (λ v. length (records_in v)) m i h);
        parts_most = omega (arith, x.parts_most, x.bytes_most, q.small);
        chars_most = omega (arith, x.chars_most, x.bytes_most, q.small);
        records_most = omega arith;
      }

module _ {m : List ℕ} (w : Each WholeRecords (halves m)) {i : ℕ} (h : i < 64) {r : List ℕ} (q : StringLent m (32 + i) r) where
  pub whole-half : WholeRecords r
  whole-half = subst WholeRecords (sym (lent-half h q)) (each_in WholeRecords (halves m) w i [] (omega (arith, length-halves m)))

module _ {m : List ℕ} {i : ℕ} (l : 32 ≤ i) (h : i < 96) {r : List ℕ} (q : StringLent m i r) where
  pub whole-file : Each WholeRecords (halves m) → WholeRecords r
  whole-file w = let z : i ≡ 32 + (i - 32) = omega arith in whole-half w {i = i - 32} (omega arith) (subst (λ j. StringLent m j r) z q)

  pub file-sums : {t : Amount} → Totalled r t → {u : Sequence} → TookRecords everything r u → StringSums m i (record { parts = t.parts; chars = t.chars; records = u.end.records })
  file-sums x y =
      let count : length (records_in r) ≡ _ = ap (λ z. z.0) y.is in
      record {
        parts_is = x.parts_is ∙ ap (λ v. part_total (records_in v)) q.is ∙ sym (by-file expression_parts (λ v. part_total (records_in v)) m i l);
        chars_is = x.chars_is ∙ ap (λ v. char_total (records_in v)) q.is ∙ sym (by-file expression_chars (λ v. char_total (records_in v)) m i l);
        records_is = sym count ∙ ap (λ v. length (records_in v)) q.is ∙ sym (by-file (λ v. 0) (λ v. length (records_in v)) m i l);
        parts_most = omega (arith, x.parts_most, q.small);
        chars_most = omega (arith, x.chars_most, q.small);
        records_most = omega (arith, y.cut.small, y.cut.within, q.small);
      }

-- ---- addresses

each_next : (f : List ℕ → List ℕ) (xs : List (List ℕ)) (i : ℕ) → i < length xs → each f (take (i + 1) xs) ≡ each f (take i xs) ++ f (get_or xs i [])
each_next f [] i h = absurd (not-suc-le-zero h)
each_next f (x ∷ xs) zero h = append-nil (f x)
each_next f (x ∷ xs) (suc i) h =
    let e : suc i + 1 ≡ suc (i + 1) = omega arith in
    ap (λ k. each f (take k (x ∷ xs))) e ∙ ap (λ l. f x ++ l) (each_next f xs i (le_of_suc-le-suc h)) ∙ sym (append_assoc (f x) (each f (take i xs)) (f (get_or xs i [])))

-- the first n places of e are the addresses of the first i halves; d is the list at first
pub record Gathering (m d e : List ℕ) (n i : ℕ) : Type 0 where
  pub upto : i ≤ 64
  pub long : length e ≡ length d
  pub is : take n e ≡ each addresses_in (take i (halves m))
  pub count : n ≡ total (λ v. length (records_in v)) (take i (halves m))

pub gathering-none : (m d : List ℕ) → Gathering m d d 0 0
gathering-none m d = record { upto = omega arith; long = refl; is = refl; count = refl }

module _ {m d : List ℕ} (c : Comparable m (length d)) {e : List ℕ} {n i : ℕ} (g : Gathering m d e n i) where
  pub within : n ≤ length e
  within = omega (arith, g.count, total-split (λ v. length (records_in v)) i (halves m), c.room, g.long)

  module _ (h : i < 64) {r : List ℕ} (q : StringLent m (32 + i) r) where
    more : total (λ v. length (records_in v)) (take (i + 1) (halves m)) ≡ n + length (records_in r)
    more = omega (arith, total-next (λ v. length (records_in v)) [] (halves m) i (omega (arith, length-halves m)), g.count, ap (λ v. length (records_in v)) (lent-half h q))

    room : n + length (records_in r) ≤ length e
    room = omega (arith, more, total-split (λ v. length (records_in v)) (i + 1) (halves m), c.room, g.long)

    pub gathering-room : Collectable r (length (take (length e - n) (drop n e)))
    gathering-room = record { whole = whole-half c.files h q; room = simp (length-take, length-drop) (omega (arith, room)) }

    module _ {u : List ℕ} {k : ℕ} (f : Collected r u k) where
      pub fits : n + k ≤ length e
      fits = omega (arith, room, f.count)

      -- the list, whose places from n on were lent
      abbrev wrote : List ℕ → List ℕ
      wrote rest = take n e ++ (u ++ rest)

      front : (rest : List ℕ) → k ≤ length u → take (n + k) (wrote rest) ≡ take n e ++ take k u
      front rest l =
          let long : length (take n e) ≡ n = length-take-le n e within in
          ap (λ (j : ℕ). take (j + k) (wrote rest)) (sym long) ∙ take-append-add (take n e) (u ++ rest) k ∙ ap (λ (v : List ℕ). take n e ++ v) (take-append-le k u rest l)

      pub gathering-next : (rest : List ℕ) → k ≤ length u → length (wrote rest) ≡ length e → Gathering m d (wrote rest) (n + k) (i + 1)
      gathering-next rest l same = record {
        upto = omega arith;
        long = same ∙ g.long;
        is = front rest l ∙ ap (λ (v : List ℕ). take n e ++ v) f.is ∙ ap (λ u. u ++ addresses_in r) g.is ∙ ap (λ v. each addresses_in (take i (halves m)) ++ addresses_in v) (lent-half h q) ∙ sym (each_next addresses_in (halves m) i (omega (arith, length-halves m)));
        count = ap (λ (j : ℕ). n + j) f.count ∙ sym more;
      }

  pub gathered : 64 ≤ i → {t : Bool} → t ≡ different eqb (take n e) → t ≡ distinct m
  unfolding distinct
  gathered h k = k ∙ ap (different eqb) (g.is ∙ ap (each addresses_in) (take_all i (halves m) (omega (arith, length-halves m))))
