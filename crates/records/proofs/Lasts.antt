-- The last record of a string, found from its end.
use mathlib.Core.Path.{◌≡◌, refl, sym, ap, ◌∙◌}
use mathlib.Core.List.{List, [], ◌∷◌, ◌++◌}
use Prim.Native.Nat.{ℕ, ◌+◌, ◌-◌, ◌≤◌, ◌<◌}
use native.Mathlib.Omega.{arith}
use lib.ListN.{length, take, drop, length-drop}
use Rattle.std.specs.Prelude.{Some, None}
use Rattle.language.specs.Values.{Record}
use Rattle.cells.specs.Below.LayoutBounds.{EncodedRecords, WholeRecords, last_size}
use Rattle.cells.specs.Below.LayoutCells.{two_at}
use Rattle.cells.proofs.Below.ComponentLaws.{records_bytes-one, last-record, next-record, whole-records, records-none}
use Rattle.cells.specs.Below.Components.{record_bytes, record_in, records_in}
use Rattle.cells.specs.Below.Changes.{address_of_last}
use Rattle.cells.specs.Cells.{Number}
use Rattle.records.specs.Places.{Starts, LastAddress}

last_of : (n : ℕ) (rs : List Record) (r : Record) → address_of_last n (rs ++ (r ∷ [])) ≡ r.addr
last_of n [] r = refl
last_of n (x ∷ rs) r = last_of x.addr rs r

pub last_none : (s : List ℕ) → length s ≡ 0 → address_of_last 0 (records_in s) ≡ 0
last_none s h = rw (records-none s h)

-- it starts at cell `at`
pub record LastAt (s : List ℕ) (k at : ℕ) : Type 0 where
  pub fits : 7 + k ≤ length s
  pub starts : Starts (drop at s)
  pub is : address_of_last 0 (records_in s) ≡ (record_in (drop at s)).addr

pub last-at : {s : List ℕ} {k : ℕ} → WholeRecords s → 0 < length s → k ≡ two_at (length s - 2) s → LastAt s k (length s - 7 - k)
last-at {s} {k} w h q =
    let l = last-record w h in
    let m : last_size s ≡ 7 + k = rw (← q) in
    let f : 7 + k ≤ length s = omega (arith, l.fits) in
    let a : length s - last_size s ≡ length s - 7 - k = omega arith in
    let r : Record = record_in (drop (length s - 7 - k) s) in
    let c : drop (length s - 7 - k) s ≡ record_bytes r = rw a at l.last in
    let e : EncodedRecords (drop (length s - 7 - k) s) (r ∷ []) = record { is = c ∙ sym (records_bytes-one r); all_ok = (rw a at l.last_ok, tt) } in
    record {
      fits = f;
      starts = record { more = rw length-drop (omega arith); whole = whole-records e };
      is = ap (address_of_last 0) (rw a at l.is) ∙ last_of 0 (records_in (take (length s - 7 - k) s)) r;
    }

-- what is told where there is one, and where there is none
pub last-some : {s : List ℕ} {k a : ℕ} → WholeRecords s → 0 < length s → k ≡ two_at (length s - 2) s → Number (record_in (drop (length s - 7 - k) s)).addr 8388608 a → LastAddress s (Some a)
last-some {s} w h q n = record { is = rw (last-at w h q).is n; some = rw (next-record w h).is refl }

pub no_last : (s : List ℕ) → length s ≡ 0 → LastAddress s None
no_last s h = record { is = record { is = sym (last_none s h); most = omega arith }; some = rw (records-none s h) refl }

-- two cells at the end are there
pub two-room : {s : List ℕ} → WholeRecords s → 0 < length s → 7 ≤ length s
two-room {s} w h = omega (arith, (last-record w h).fits)
