-- The record in front: its cells, where it ends, and the walk behind it.
use mathlib.Core.Path.{◌≡◌, refl, sym, ap, ◌∙◌}
use mathlib.Core.List.{List, [], ◌∷◌, ◌++◌, append_assoc}
use Prim.Native.Nat.{ℕ, ◌+◌, ◌-◌, ◌≤◌, ◌<◌}
use native.Mathlib.Omega.{arith}
use lib.ListN.{length, take, drop, length-append, length-drop, take-append-drop}
use lib.Seq.{drop-drop, length-take-le, take_at, drop-append_seam}
use Rattle.cells.specs.Cells.{Number}
use Rattle.language.specs.Values.{Record}
use Rattle.cells.specs.Below.LayoutBounds.{EncodedRecords, RecordOk, WholeRecords, NextRecord}
use Rattle.cells.specs.Below.LayoutCells.{two, two_at, three_at}
use Rattle.cells.proofs.Below.ComponentLaws.{next-record, record-length, records_bytes-one, records-none, records-of, whole-records}
use Rattle.cells.specs.Below.Components.{components_bytes, record_bytes, record_in, records_in}
use Rattle.lists.specs.Lists.{if_any}
use Rattle.records.specs.Places.{Starts, Ends, FrontRecord, Part, next_contents}

-- its components stand behind five cells
components-behind : (r : Record) (t : List ℕ) (n : ℕ) → n + 7 ≡ length (record_bytes r) → take n (drop 5 (record_bytes r ++ t)) ≡ components_bytes r.parts
unfolding record_bytes
components-behind r t n h =
    let l : List ℕ = components_bytes r.parts in
    rw (append_assoc l (two (length l)) t) (take_at l (two (length l) ++ t) n (omega (arith, record-length r)))

module _ {s : List ℕ} (h : Starts s) where
  pub next-at : NextRecord s
  next-at = next-record h.whole h.more

  pub start-room : 7 ≤ length s
  start-room = omega (arith, next-at.fits)

  pub ends_at : {n : ℕ} → n ≡ two_at 3 s → Ends s (7 + n)
  ends_at {n} q =
      let k = next-at in
      let m : two_at 3 s ≡ n = sym q in
      let long : 7 + n ≤ length s = omega (arith, k.fits, m) in
      let f : take (7 + n) s ≡ record_bytes (record_in s) = rw m at k.first in
      record {
        is = omega (arith, ap length f, length-take-le (7 + n) s long);
        more = omega arith;
        within = long;
        first = rw m at k.is;
        cells = sym (take-append-drop (7 + n) s) ∙ rw f;
        first_ok = k.first_ok;
        rest = rw m at k.rest;
      }

  address_is : (record_in s).addr ≡ three_at 0 s
  unfolding record_in
  address_is = refl

  pub address_read : {n : ℕ} → n ≡ three_at 0 s → Number (record_in s).addr 8388608 n
  address_read {n} q = record { is = q ∙ sym address_is; most = omega (arith, address_is, next-at.first_ok.addr_most) }

  pub contents-is : {n : ℕ} → n ≡ two_at 3 s → Part s (record_in s).parts (take n (drop 5 s))
  contents-is {n} q =
      let e = ends_at q in
      let r : Record = record_in s in
      let c : take n (drop 5 s) ≡ components_bytes r.parts = ap (λ l. take n (drop 5 l)) e.cells ∙ components-behind r (drop (7 + n) s) n (omega (arith, e.is)) in
      let k : length (take n (drop 5 s)) ≡ n = omega (arith, ap length c, record-length r, e.is) in
      record {
        cells = record { is = c; all_ok = e.first_ok.parts_ok };
        most = omega (arith, e.within);
        small = omega (arith, ap length c, e.first_ok.bytes_below);
      }

front-of : {x y : Record} {xs ys : List Record} → x ∷ xs ≡ y ∷ ys → x ≡ y
front-of {x} e = ap (λ zs. if_any x (λ z. z) zs) e

module _ {s r t : List ℕ} (f : FrontRecord s r t) where
  pub record-cells : length s ≡ length r + length t
  record-cells = ap length f.cells ∙ length-append r t

  pub record-some : 7 ≤ length r
  record-some = omega (arith, ap length f.is, record-length (record_in s))

  pub front_shorter : length t < length s
  front_shorter = omega (arith, record-cells, record-some)

  one_encoded : EncodedRecords r (record_in s ∷ [])
  one_encoded = record { is = f.is ∙ sym (records_bytes-one (record_in s)); all_ok = (f.first_ok, tt) }

  pub record_starts : Starts r
  record_starts = record { more = omega (arith, record-some); whole = whole-records one_encoded }

  -- it is the record that the string begins with
  pub record-same : record_in r ≡ record_in s
  record-same = front-of (sym (next-record (whole-records one_encoded) (omega (arith, record-some))).is ∙ records-of one_encoded)

-- the record at cell `at` of s ends before cell e
pub record EndsAt (s : List ℕ) (at e : ℕ) : Type 0 where
  pub is : e ≡ at + length (record_bytes (record_in (drop at s)))
  pub more : at + 7 ≤ e
  pub within : e ≤ length s
  pub first : records_in (drop at s) ≡ record_in (drop at s) ∷ records_in (drop e s)
  pub cells : drop at s ≡ record_bytes (record_in (drop at s)) ++ drop e s
  pub first_ok : RecordOk (record_in (drop at s))
  pub rest : WholeRecords (drop e s)

pub ends-cells : {s : List ℕ} {at e : ℕ} → EndsAt s at e → take (e - at) (drop at s) ≡ record_bytes (record_in (drop at s))
ends-cells {s} {at} {e} h =
    let r : List ℕ = record_bytes (record_in (drop at s)) in
    ap (take (e - at)) h.cells ∙ take_at r (drop e s) (e - at) (omega (arith, h.is))

-- ---- a string that is walked: what is left of it begins at cell `at`

pub record Left (s left : List ℕ) (at : ℕ) : Type 0 where
  pub is : left ≡ drop at s
  pub within : at ≤ length s
  pub whole : WholeRecords left

pub left-all : {s : List ℕ} → WholeRecords s → Left s s 0
left-all w = record { is = refl; within = omega arith; whole = w }

module _ {s left : List ℕ} {at : ℕ} (l : Left s left at) where
  left-long : length left + at ≡ length s
  left-long = omega (arith, ap length l.is, length-drop at s, l.within)

  pub left_place : length s - length left ≡ at
  left_place = omega (arith, left-long)

  pub left_within : length left ≤ length s
  left_within = omega (arith, left-long)

  pub left-end : left ≡ [] → length s ≡ at
  left-end e = omega (arith, left-long, ap length e)

  -- the record there, in the string
  module _ {r t : List ℕ} (f : FrontRecord left r t) where
    behind-is : t ≡ drop (at + length r) s
    behind-is = sym (drop-append_seam r t) ∙ ap (drop (length r)) (sym f.cells ∙ l.is) ∙ drop-drop (length r) at s

    pub here : record_in r ≡ record_in (drop at s)
    here = record-same f ∙ ap record_in l.is

    pub left_next : Left s t (at + length r)
    left_next = record { is = behind-is; within = omega (arith, left-long, record-cells f); whole = f.rest }

    pub ends_here : EndsAt s at (at + length r)
    ends_here =
        let g : FrontRecord (drop at s) r (drop (at + length r) s) = rw (l.is, behind-is) at f in
        record {
          is = ap (λ (x : List ℕ). at + length x) g.is;
          more = omega (arith, record-some f);
          within = omega (arith, left-long, record-cells f);
          first = g.first;
          cells = g.cells ∙ ap (λ (x : List ℕ). x ++ drop (at + length r) s) g.is;
          first_ok = g.first_ok;
          rest = g.rest;
        }

    -- its components, as a part of the string
    pub contents-here : {c : List ℕ} → Part r (record_in r).parts c → Part s (record_in (drop at s)).parts c
    contents-here {c} p =
        record { cells = rw here at p.cells; most = omega (arith, p.most, record-cells f, left-long); small = p.small }

    pub part-is : take (at + length r - at) (drop at s) ≡ r
    part-is = ends-cells ends_here ∙ ap (λ (x : List ℕ). record_bytes (record_in x)) (sym l.is) ∙ sym f.is

    pub behind_long : length s - (at + length r) ≡ length t
    behind_long = omega (arith, left-long, record-cells f)

-- the components of the first record, and of none
pub next-some : {s : List ℕ} (w : WholeRecords s) → 0 < length s → next_contents (records_in s) ≡ (record_in s).parts
next-some w h = rw (next-record w h).is

pub next-none : (s : List ℕ) → length s ≡ 0 → Part s (next_contents (records_in s)) []
unfolding components_bytes
next-none s h = rw (records-none s h) record { cells = record { is = refl; all_ok = tt }; most = omega arith; small = omega arith }
