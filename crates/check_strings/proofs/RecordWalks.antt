-- Sound records: what the record in front says of them, and what they are.
use mathlib.Core.Path.{◌≡◌, refl, sym, ap, ◌∙◌, subst}
use mathlib.Core.Bool.{Bool, true, ◌&&◌}
use mathlib.Core.List.{List, [], ◌∷◌, ◌++◌, map, append_assoc}
use Prim.Native.Nat.{ℕ, zero, suc, ◌+◌, ◌*◌, ◌/◌, ◌%◌, ◌≤◌, ◌<◌}
use native.Mathlib.Omega.{arith}
use lib.Dec.{T, leb, ltb, eqb, leb→le, le→leb, ltb→lt, lt→ltb, eqb→eq}
use lib.ListN.{length, take, drop, length-drop, take-append-drop}
use lib.Seq.{get_or-drop, length-take-le, take-add, take_at, drop_at, drop-drop}
use borrow.Author.Tests.{eq-eqb}
use Rattle.layout.specs.CodeLaws.{three-cells}
use Rattle.lists.specs.BoolLaws.{same_test}
use Rattle.language.specs.Limits as limit
use Rattle.language.specs.Values.{Record}
use Rattle.layout.specs.Bounds.{Each, RecordOk, WholeComponents, WholeRecords}
use Rattle.layout.proofs.CellLaws.{two_back}
use Rattle.layout.specs.Cells.{two, two_at, three, three_at}
use Rattle.layout.specs.Components.{components_bytes, record_bytes, records_bytes, components_in, record_in, records_from, records_in, addresses_in}
use Rattle.layout.proofs.ComponentLaws.{next-component, components-none, record-length, records-front, next-record}
use Rattle.lists.specs.ListLaws.{T-left, T-right, T-both, same_bytes-eq, same_bytes-refl, all_head, all_tail, all_cons}
use Rattle.lists.specs.Lists.{total, all, bytes_equal}
use Rattle.machine.specs.WellFormed.{void, faults, record_faults}
use Rattle.check_strings.specs.Sound.{Bytes, sound_components, given, sound_records, sound_record}
use Rattle.check_strings.proofs.ComponentWalks.{bytes_left, bytes-right, bytes_drop, bytes_take, Parts, parts-open, parts-close, parts_whole, oks-of}

-- ---- numbers in cells

pub two_cells : (u : List ℕ) → 2 ≤ length u → Bytes u → take 2 u ≡ two (two_at 0 u)
two_cells [] n h = absurd (omega (arith, n))
two_cells (p ∷ []) n h = absurd (omega (arith, n))
two_cells (p ∷ q ∷ t) n h =
    let a : p < 256 = h 0 in
    let x : (p + 256 * q) % 256 ≡ p = omega arith in
    let y : (p + 256 * q) / 256 ≡ q = omega arith in
    rw (x, y)

pub three-front : (u : List ℕ) → 3 ≤ length u → Bytes u → take 3 u ≡ three (three_at 0 u)
three-front [] n h = absurd (omega (arith, n))
three-front (p ∷ []) n h = absurd (omega (arith, n))
three-front (p ∷ q ∷ []) n h = absurd (omega (arith, n))
three-front (p ∷ q ∷ r ∷ t) n h = sym (three-cells p q r (h 0) (h 1) (h 2))

two-at-drop : (k : ℕ) (b : List ℕ) → two_at 0 (drop k b) ≡ two_at k b
two-at-drop k b =
    let z : k + 0 ≡ k = omega arith in
    let s : k + 1 ≡ 1 + k = omega arith in
    rw (get_or-drop k b 0 0, get_or-drop k b 1 0, z, s)

pub two_from : (k : ℕ) (b : List ℕ) → k + 2 ≤ length b → Bytes b → take 2 (drop k b) ≡ two (two_at k b)
two_from k b n h = two_cells (drop k b) (rw (length-drop k b) (omega arith)) (bytes_drop k b h) ∙ ap two (two-at-drop k b)

two-small : (k : ℕ) (b : List ℕ) → Bytes b → two_at k b < 65536
two-small k b h = omega (arith, h k, h (1 + k))

-- ---- the record in front

pub record Front (l : ℕ) (b : List ℕ) : Type 0 where
  pub fits : 7 + two_at 3 b ≤ length b
  pub first : take (7 + two_at 3 b) b ≡ record_bytes (record_in b)
  pub is_ok : RecordOk (record_in b)
  pub faultless : record_faults l (record_in b) ≡ 0
  pub addressed : T (given l (record_in b).addr)

module _ (l : ℕ) (b : List ℕ) (k : l ≤ limit.addresses) (h : Bytes b) where
  abbrev n : ℕ
  n = two_at 3 b

  abbrev inner : List ℕ
  inner = take n (drop 5 b)

  -- the five tests of a record
  abbrev t0 : Bool
  t0 = leb (7 + n) (length b)

  abbrev t1 : Bool
  t1 = eqb (two_at (5 + n) b) n

  abbrev t2 : Bool
  t2 = ltb 0 n

  abbrev t3 : Bool
  t3 = given l (three_at 0 b)

  abbrev t4 : Bool
  t4 = sound_components l inner

  bytes-inner : Bytes inner
  bytes-inner = bytes_take n (drop 5 b) (bytes_drop 5 b h)

  no-void : WholeComponents inner → 0 < length inner → void (components_in inner) ≡ 0
  no-void w m = ap void (next-component w m).is

  front-made : 7 + n ≤ length b → two_at (5 + n) b ≡ n → 0 < n → T (given l (three_at 0 b)) → Parts l inner → Front l b
  unfolding record_in record_bytes
  front-made f e m g p =
      let long : length inner ≡ n = length-take-le n (drop 5 b) (rw (length-drop 5 b) (omega (arith, f))) in
      let w : WholeComponents inner = parts_whole l inner k bytes-inner p in
      let z : void (components_in inner) ≡ 0 = no-void w (omega arith) in
      let a : take 3 b ≡ three (three_at 0 b) = three-front b (omega (arith, f)) h in
      let c : take 2 (drop 3 b) ≡ two n = two_from 3 b (omega (arith, f)) h in
      let d : take 2 (drop (5 + n) b) ≡ two n = two_from (5 + n) b (omega (arith, f)) h ∙ ap two e in
      let q : 7 + n ≡ 3 + (2 + (n + 2)) = omega arith in
      let cut : take (7 + n) b ≡ take 3 b ++ (take 2 (drop 3 b) ++ (inner ++ take 2 (drop (5 + n) b))) =
      rw (q, take-add 3 (2 + (n + 2)) b, take-add 2 (n + 2) (drop 3 b), drop-drop 2 3 b, take-add n 2 (drop 5 b), drop-drop n 5 b) in
      let cells : components_bytes (components_in inner) ≡ inner = p.cells in
      record {
        fits = f;
        first = cut ∙ rw (a, c, d, cells, long);
        is_ok = record {
          addr_most = omega (arith, leb→le (three_at 0 b) l (T-right (ltb 0 (three_at 0 b)) (leb (three_at 0 b) l) g));
          parts_ok = w.all_ok;
          bytes_below = rw (cells, long) (two-small 3 b h);
        };
        faultless = omega (arith, z, p.faultless);
        addressed = g;
      }

  pub front-open : T (sound_record l b) → Front l b
  unfolding sound_record
  front-open s =
      let s3 = T-left (t0 && t1 && t2 && t3) t4 s in
      let s2 = T-left (t0 && t1 && t2) t3 s3 in
      let s1 = T-left (t0 && t1) t2 s2 in
      front-made (leb→le (7 + n) (length b) (T-left t0 t1 s1)) (eqb→eq (two_at (5 + n) b) n (T-right t0 t1 s1)) (ltb→lt 0 n (T-right (t0 && t1) t2 s2))
      (T-right (t0 && t1 && t2) t3 s3) (parts-open l inner (T-right (t0 && t1 && t2 && t3) t4 s))

  -- and what it shows
  module _ (f : Front l b) where
    abbrev r : Record
    r = record_in b

    abbrev L : List ℕ
    L = components_bytes (components_in inner)

    abbrev behind : List ℕ
    behind = drop (7 + n) b

    all-cells : b ≡ record_bytes r ++ behind
    all-cells = sym (rw (← f.first) (take-append-drop (7 + n) b))

    inner-long : length L ≡ n
    unfolding record_in
    inner-long = omega (arith, record-length r, ap length f.first, length-take-le (7 + n) b f.fits)

    from-five : drop 5 b ≡ L ++ (two (length L) ++ behind)
    unfolding record_in record_bytes
    from-five = ap (drop 5) all-cells ∙ append_assoc L (two (length L)) behind

    inner-is : inner ≡ L
    inner-is = ap (take n) from-five ∙ take_at L (two (length L) ++ behind) n inner-long

    end_is : two_at (5 + n) b ≡ n
    end_is =
        let d : drop (5 + n) b ≡ two (length L) ++ behind = sym (drop-drop n 5 b) ∙ ap (drop n) from-five ∙ drop_at L (two (length L) ++ behind) n inner-long in
        sym (two-at-drop (5 + n) b) ∙ ap (two_at 0) d ∙ two_back (length L) ∙ inner-long

    no_faults : void (components_in inner) + total (faults l) (components_in inner) ≡ 0
    unfolding record_in
    no_faults = f.faultless

    inner-parts : Parts l inner
    inner-parts = record { cells = sym inner-is; faultless = omega (arith, no_faults) }

    some : 0 < n
    some = go n refl
      where
        go : (i : ℕ) → n ≡ i → 0 < i
        go zero e =
            let z : length inner ≡ 0 = ap length inner-is ∙ inner-long ∙ e in
            absurd (omega (arith, no_faults, ap void (components-none inner z)))
        go (suc i) e = omega arith

  pub front-close : Front l b → T (sound_record l b)
  unfolding sound_record record_in
  front-close f =
      let e : T t1 = rw (eq-eqb (two_at (5 + n) b) n (end_is f)) tt in
      T-both (t0 && t1 && t2 && t3) t4
      (T-both (t0 && t1 && t2) t3 (T-both (t0 && t1) t2 (T-both t0 t1 (le→leb (7 + n) (length b) f.fits) e) (lt→ltb 0 n (some f))) f.addressed)
      (parts-close l inner (inner-parts f))

-- ---- all of them

pub record Rows (l : ℕ) (b : List ℕ) : Type 0 where
  pub cells : records_bytes (records_in b) ≡ b
  pub faultless : total (record_faults l) (records_in b) ≡ 0
  pub addressed : T (all (given l) (addresses_in b))

pub rows-open : (l : ℕ) (b : List ℕ) → T (sound_records l b) → Rows l b
unfolding sound_records
rows-open l b h =
    let s : Bool = bytes_equal (records_bytes (records_in b)) b in
    let z : Bool = eqb (total (record_faults l) (records_in b)) 0 in
    let a : Bool = all (given l) (addresses_in b) in
    let q = T-left (s && z) a h in
    record {
      cells = same_bytes-eq (records_bytes (records_in b)) b (T-left s z q);
      faultless = eqb→eq (total (record_faults l) (records_in b)) 0 (T-right s z q);
      addressed = T-right (s && z) a h;
    }

pub rows-close : (l : ℕ) (b : List ℕ) → Rows l b → T (sound_records l b)
unfolding sound_records
rows-close l b p =
    let s : Bool = bytes_equal (records_bytes (records_in b)) b in
    let z : Bool = eqb (total (record_faults l) (records_in b)) 0 in
    T-both (s && z) (all (given l) (addresses_in b)) (T-both s z (rw p.cells (same_bytes-refl b)) (rw p.faultless tt)) p.addressed

-- records without faults, in bytes, have a layout
record-ok : (l : ℕ) (r : Record) → l ≤ limit.addresses → Bytes (record_bytes r) → record_faults l r ≡ 0 → T (given l r.addr) → RecordOk r
unfolding record_bytes
record-ok l r k h f g =
    let L : List ℕ = components_bytes r.parts in
    let e : List ℕ = two (length L) in
    let i : Bytes L = bytes_left L e (bytes-right e (L ++ e) (bytes-right (three r.addr) (e ++ (L ++ e)) h)) in
    let most : length L / 256 < 256 = h 4 in
    record {
      addr_most = omega (arith, leb→le r.addr l (T-right (ltb 0 r.addr) (leb r.addr l) g));
      parts_ok = oks-of l r.parts k i (omega (arith, f));
      bytes_below = omega (arith, most);
    }

record-oks : (l : ℕ) (rs : List Record) → l ≤ limit.addresses → Bytes (records_bytes rs) → total (record_faults l) rs ≡ 0
    → T (all (given l) (map (λ r. r.addr) rs)) → Each RecordOk rs
unfolding records_bytes
record-oks l [] k h f g = tt
record-oks l (r ∷ rs) k h f g =
    let ns : List ℕ = map (λ r. r.addr) rs in (
      record-ok l r k (bytes_left (record_bytes r) (records_bytes rs) h) (omega (arith, f)) (all_head (given l) r.addr ns g),
      record-oks l rs k (bytes-right (record_bytes r) (records_bytes rs) h) (omega (arith, f)) (all_tail (given l) r.addr ns g),
    )

pub rows_whole : (l : ℕ) (b : List ℕ) → l ≤ limit.addresses → Bytes b → Rows l b → WholeRecords b
rows_whole l b k h p = record { is = sym p.cells; all_ok = record-oks l (records_in b) k (rw p.cells h) p.faultless p.addressed }

-- the step of the walk
module _ (l : ℕ) (b : List ℕ) (k : l ≤ limit.addresses) (h : Bytes b) (m : 0 < length b) where
  abbrev rest : List ℕ
  rest = drop (7 + two_at 3 b) b

  apart : Rows l b → Front l b × Rows l rest
  apart p =
      let q = next-record (rows_whole l b k h p) m in
      let x : Record = record_in b in
      let ns : List ℕ = addresses_in rest in
      let f = ap (total (record_faults l)) q.is in
      let g : T (all (given l) (x.addr ∷ ns)) = subst (λ rs. T (all (given l) (map (λ r. r.addr) rs))) q.is p.addressed in (
        record { fits = q.fits; first = q.first; is_ok = q.first_ok; faultless = omega (arith, f, p.faultless); addressed = all_head (given l) x.addr ns g },
        record { cells = sym q.rest.is; faultless = omega (arith, f, p.faultless); addressed = all_tail (given l) x.addr ns g },
      )

  together : Front l b → Rows l rest → Rows l b
  unfolding records_bytes
  together f p =
      let x : Record = record_in b in
      let e : record_bytes x ++ rest ≡ b = rw (← f.first) (take-append-drop (7 + two_at 3 b) b) in
      let i : records_in b ≡ x ∷ records_in rest = ap records_in (sym e) ∙ records-front x rest f.is_ok in
      record {
        cells = ap records_bytes i ∙ rw p.cells e;
        faultless = ap (total (record_faults l)) i ∙ omega (arith, f.faultless, p.faultless);
        addressed = subst (λ rs. T (all (given l) (map (λ r. r.addr) rs))) (sym i) (all_cons (given l) x.addr (addresses_in rest) f.addressed p.addressed);
      }

  pub records-walk : sound_records l b ≡ sound_record l b && sound_records l rest
  records-walk =
      let c : Bool = sound_record l b in
      let d : Bool = sound_records l rest in
      let to : T (sound_records l b) → T (c && d) =
      λ s. let q = apart (rows-open l b s) in T-both c d (front-close l b k h q.0) (rows-close l rest q.1) in
      let from : T (c && d) → T (sound_records l b) =
      λ s. rows-close l b (together (front-open l b k h (T-left c d s)) (rows-open l rest (T-right c d s))) in
      same_test (sound_records l b) (c && d) to from

pub records-end : (l : ℕ) (b : List ℕ) → length b ≡ 0 → sound_records l b ≡ true
unfolding sound_records records_in records_from records_bytes
records-end l [] h = refl
records-end l (x ∷ b) h = absurd (omega (arith, h))
