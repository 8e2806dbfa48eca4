-- Laws of components and records in bytes: they are read back, in front of anything, and equal bytes are equal components.
use Rattle.std.specs.Prelude.{◌≡◌, refl, List, [], ◌∷◌, ◌++◌, ℕ, zero, suc, ◌+◌, ◌*◌, ◌-◌, ◌/◌, ◌%◌, ◌≤◌, ◌<◌, T, length, take, drop}
use Rattle.std.proofs.Common.{sym, ap, ◌∙◌, subst, append_assoc, append-nil, not-suc-le-zero, arith, length-append, length-drop, ne_eqb}
use Rattle.std.proofs.Math.Seq.{take-append_seam, drop-append_seam}
use Rattle.lists.specs.BoolLaws.{same_test}
use Rattle.machine.specs.Below.ListLaws.{same_bytes-eq, same_bytes-refl}
use Rattle.machine.specs.Below.Lists.{total, bytes_equal}
use Rattle.machine.specs.Below.LanguageValues.{Component, Record, chars, same}
use Rattle.machine.specs.Below.LanguageValues.Component.{word, address}
use Rattle.machine.proofs.ValueLaws.{same-eq, same_refl}
use Rattle.layout.specs.Bounds.{Each, Below, Ok, RecordOk, EncodedOne, Encoded, EncodedRecords, OneComponent, WholeComponents, WholeRecords, last_size, NextComponent, NextRecord, LastRecord}
use Rattle.layout.proofs.CellLaws.{each_left, each_right, below-append, three_back, three-below, two_back, two-at_end, two-below, code_below, uncode-code}
use Rattle.layout.specs.Cells.{cell, two, two_at, three, code}
use Rattle.layout.specs.Components.{component_bytes, components_bytes, record_bytes, records_bytes, component_size, component_in, components_from, components_in, record_in, records_from, records_in}

-- ---- one component in front of anything

pub component-back : (x : Component) (t : List ℕ) → Ok x → component_in (component_bytes x ++ t) ≡ x
unfolding component_bytes component_in
component-back (word w) t h = rw (ne_eqb (length w) 0 (λ e. omega arith)) (ap word (take-append_seam w t))
component-back (Component.number z) t h = rw (three_back (code z)) (ap Component.number (uncode-code z h))
component-back (address n) t h = ap address (three_back n)

-- the first cell tells how many cells it takes
pub component-long : (x : Component) (t : List ℕ) → Ok x → component_size (cell (component_bytes x ++ t) 0) ≡ length (component_bytes x)
unfolding component_bytes
component-long (word w) t h = rw (ne_eqb (length w) 0 (λ e. omega arith)) (omega arith)
component-long (Component.number z) t h = refl
component-long (address n) t h = refl

pub component-some : (x : Component) → 0 < length (component_bytes x)
unfolding component_bytes
component-some (word w) = omega arith
component-some (Component.number z) = omega arith
component-some (address n) = omega arith

pub component-most : (x : Component) → length (component_bytes x) ≤ 5 + length (chars x)
unfolding component_bytes
component-most (word w) = omega arith
component-most (Component.number z) = omega arith
component-most (address n) = omega arith

pub component-below : (x : Component) → Ok x → Below 256 (chars x) → Below 256 (component_bytes x)
unfolding component_bytes
component-below (word w) h k = (omega arith, k)
component-below (Component.number z) h k = (omega arith, (omega arith, three-below (code z) (code_below z h)))
component-below (address n) h k = (omega arith, (omega arith, three-below n (omega arith)))

pub component-inj : (x y : Component) → Ok x → Ok y → component_bytes x ≡ component_bytes y → x ≡ y
component-inj x y h k e =
    sym (component-back x [] h) ∙ ap component_in (ap (λ l. l ++ []) e) ∙ component-back y [] k

-- equal bytes are equal components
pub same_bytes : (x y : Component) → Ok x → Ok y → same x y ≡ bytes_equal (component_bytes x) (component_bytes y)
same_bytes x y h k = same_test (same x y) (bytes_equal (component_bytes x) (component_bytes y)) to from
  where
    to : T (same x y) → T (bytes_equal (component_bytes x) (component_bytes y))
    to t = subst (λ z. T (bytes_equal (component_bytes x) (component_bytes z))) (same-eq x y t) (same_bytes-refl (component_bytes x))

    from : T (bytes_equal (component_bytes x) (component_bytes y)) → T (same x y)
    from t = subst (λ z. T (same x z)) (component-inj x y h k (same_bytes-eq (component_bytes x) (component_bytes y) t)) (same_refl x)

-- ---- lists of components

pub components_bytes-append : (xs ys : List Component) → components_bytes (xs ++ ys) ≡ components_bytes xs ++ components_bytes ys
unfolding components_bytes
components_bytes-append [] ys = refl
components_bytes-append (x ∷ xs) ys = rw (components_bytes-append xs ys, append_assoc)

pub components_bytes-one : (x : Component) → components_bytes (x ∷ []) ≡ component_bytes x
unfolding components_bytes
components_bytes-one x = append-nil (component_bytes x)

pub components_most : (xs : List Component) → length (components_bytes xs) ≤ 5 * total (λ x. 1) xs + total (λ x. length (chars x)) xs
unfolding components_bytes
components_most [] = omega arith
components_most (x ∷ xs) = simp length-append (omega (arith, component-most x, components_most xs))

-- the count of cells is enough to read them all
size-some : (x : ℕ) → 0 < component_size x
size-some zero = omega arith
size-some (suc x) = rw (ne_eqb (suc x) 0 (λ e. omega (arith, e))) (omega arith)

components-fuel : (n m : ℕ) (l : List ℕ) → length l ≤ n → length l ≤ m → components_from n l ≡ components_from m l
unfolding components_from
components-fuel zero zero l h k = refl
components-fuel zero (suc m) [] h k = refl
components-fuel zero (suc m) (x ∷ l) h k = absurd (not-suc-le-zero h)
components-fuel (suc n) zero [] h k = refl
components-fuel (suc n) zero (x ∷ l) h k = absurd (not-suc-le-zero k)
components-fuel (suc n) (suc m) [] h k = refl
components-fuel (suc n) (suc m) (x ∷ l) h k =
    let r : List ℕ = drop (component_size x) (x ∷ l) in
    let b : length r ≤ length l = rw (length-drop (component_size x) (x ∷ l)) (omega (arith, size-some x)) in
    ap (λ xs. component_in (x ∷ l) ∷ xs) (components-fuel n m r (omega arith) (omega arith))

components-step : (l : List ℕ) → 0 < length l → components_in l ≡ component_in l ∷ components_in (drop (component_size (cell l 0)) l)
unfolding components_in components_from
components-step [] h = absurd (not-suc-le-zero h)
components-step (x ∷ l) h =
    let r : List ℕ = drop (component_size x) (x ∷ l) in
    let b : length r ≤ length l = rw (length-drop (component_size x) (x ∷ l)) (omega (arith, size-some x)) in
    ap (λ xs. component_in (x ∷ l) ∷ xs) (components-fuel (length l) (length r) r b (omega arith))

pub components-front : (x : Component) (l : List ℕ) → Ok x → components_in (component_bytes x ++ l) ≡ x ∷ components_in l
components-front x l h =
    components-step (component_bytes x ++ l) (simp length-append (omega (arith, component-some x)))
    ∙ rw (component-back x l h, component-long x l h, drop-append_seam (component_bytes x) l)

pub components_in-append : (xs : List Component) (l : List ℕ) → Each Ok xs → components_in (components_bytes xs ++ l) ≡ xs ++ components_in l
unfolding components_bytes
components_in-append [] l h = refl
components_in-append (x ∷ xs) l h =
    rw (append_assoc, components-front x (components_bytes xs ++ l) h.0, components_in-append xs l h.1)

-- what is written is read back
pub components-back : (xs : List Component) → Each Ok xs → components_in (components_bytes xs) ≡ xs
unfolding components_in components_from
components-back xs h = ap components_in (sym (append-nil (components_bytes xs))) ∙ components_in-append xs [] h ∙ append-nil xs

pub components-below : (xs : List Component) → Each Ok xs → Each (λ x. Below 256 (chars x)) xs → Below 256 (components_bytes xs)
unfolding components_bytes
components-below [] h k = tt
components-below (x ∷ xs) h k =
    below-append 256 (component_bytes x) (components_bytes xs) (component-below x h.0 k.0) (components-below xs h.1 k.1)

-- ---- records

pub record-length : (r : Record) → length (record_bytes r) ≡ 7 + length (components_bytes r.parts)
unfolding record_bytes
record-length r = simp length-append (omega arith)

-- cells 3 and 4 tell how many cells it takes
pub record-long : (r : Record) (t : List ℕ) → 7 + two_at 3 (record_bytes r ++ t) ≡ length (record_bytes r)
unfolding record_bytes
record-long r t = simp length-append (omega arith)

-- and so do the last two, behind anything
pub record-end : (l : List ℕ) (r : Record) → last_size (l ++ record_bytes r) ≡ length (record_bytes r)
unfolding record_bytes
record-end l r =
    let b : List ℕ = components_bytes r.parts in
    let e : List ℕ = two (length b) in
    let p : List ℕ = l ++ (three r.addr ++ (e ++ b)) in
    let whole : l ++ record_bytes r ≡ p ++ e = simp append_assoc in
    let at : length (p ++ e) - 2 ≡ length p = simp length-append (omega arith) in
    rw (whole, at, two-at_end p (length b)) (simp length-append (omega arith))

pub record-back : (r : Record) (t : List ℕ) → RecordOk r → record_in (record_bytes r ++ t) ≡ r
unfolding record_bytes record_in
record-back r t h =
    let l : List ℕ = components_bytes r.parts in
    let n : ℕ = length l in
    let a = three_back r.addr in
    let p : components_in (take (n % 256 + 256 * (n / 256)) ((l ++ two n) ++ t)) ≡ r.parts =
    rw (two_back n, append_assoc, take-append_seam l (two n ++ t)) (components-back r.parts h.parts_ok) in
    λ i. record { addr = a i; parts = p i }

pub one-record : (r : Record) → RecordOk r → record_in (record_bytes r) ≡ r
one-record r h = ap record_in (sym (append-nil (record_bytes r))) ∙ record-back r [] h

pub record-below : (r : Record) → RecordOk r → Each (λ x. Below 256 (chars x)) r.parts → Below 256 (record_bytes r)
unfolding record_bytes
record-below r h k =
    let l : List ℕ = components_bytes r.parts in
    let e : List ℕ = two (length l) in
    let b : Below 256 e = two-below (length l) h.bytes_below in
    below-append 256 (three r.addr) (e ++ (l ++ e)) (three-below r.addr (omega (arith, h.addr_most)))
    (below-append 256 e (l ++ e) b (below-append 256 l e (components-below r.parts h.parts_ok k) b))

pub records_bytes-append : (rs ts : List Record) → records_bytes (rs ++ ts) ≡ records_bytes rs ++ records_bytes ts
unfolding records_bytes
records_bytes-append [] ts = refl
records_bytes-append (r ∷ rs) ts = rw (records_bytes-append rs ts, append_assoc)

pub records_bytes-one : (r : Record) → records_bytes (r ∷ []) ≡ record_bytes r
unfolding records_bytes
records_bytes-one r = append-nil (record_bytes r)

pub records_most : (rs : List Record)
    → length (records_bytes rs) ≤ 5 * total (λ r. total (λ x. 1) r.parts) rs + total (λ r. total (λ x. length (chars x)) r.parts) rs + 7 * total (λ r. 1) rs
unfolding records_bytes
records_most [] = omega arith
records_most (r ∷ rs) = simp length-append (omega (arith, record-length r, components_most r.parts, records_most rs))

records-fuel : (n m : ℕ) (l : List ℕ) → length l ≤ n → length l ≤ m → records_from n l ≡ records_from m l
unfolding records_from
records-fuel zero zero l h k = refl
records-fuel zero (suc m) [] h k = refl
records-fuel zero (suc m) (x ∷ l) h k = absurd (not-suc-le-zero h)
records-fuel (suc n) zero [] h k = refl
records-fuel (suc n) zero (x ∷ l) h k = absurd (not-suc-le-zero k)
records-fuel (suc n) (suc m) [] h k = refl
records-fuel (suc n) (suc m) (x ∷ l) h k =
    let r : List ℕ = drop (7 + two_at 3 (x ∷ l)) (x ∷ l) in
    let b : length r ≤ length l = rw (length-drop (7 + two_at 3 (x ∷ l)) (x ∷ l)) (omega arith) in
    ap (λ rs. record_in (x ∷ l) ∷ rs) (records-fuel n m r (omega arith) (omega arith))

records-step : (l : List ℕ) → 0 < length l → records_in l ≡ record_in l ∷ records_in (drop (7 + two_at 3 l) l)
unfolding records_in records_from
records-step [] h = absurd (not-suc-le-zero h)
records-step (x ∷ l) h =
    let r : List ℕ = drop (7 + two_at 3 (x ∷ l)) (x ∷ l) in
    let b : length r ≤ length l = rw (length-drop (7 + two_at 3 (x ∷ l)) (x ∷ l)) (omega arith) in
    ap (λ rs. record_in (x ∷ l) ∷ rs) (records-fuel (length l) (length r) r b (omega arith))

pub records-front : (r : Record) (l : List ℕ) → RecordOk r → records_in (record_bytes r ++ l) ≡ r ∷ records_in l
records-front r l h =
    records-step (record_bytes r ++ l) (simp length-append (omega (arith, record-length r)))
    ∙ rw (record-back r l h, record-long r l, drop-append_seam (record_bytes r) l)

pub records_in-append : (rs : List Record) (l : List ℕ) → Each RecordOk rs → records_in (records_bytes rs ++ l) ≡ rs ++ records_in l
unfolding records_bytes
records_in-append [] l h = refl
records_in-append (r ∷ rs) l h = rw (append_assoc, records-front r (records_bytes rs ++ l) h.0, records_in-append rs l h.1)

pub records-back : (rs : List Record) → Each RecordOk rs → records_in (records_bytes rs) ≡ rs
unfolding records_in records_from
records-back rs h = ap records_in (sym (append-nil (records_bytes rs))) ∙ records_in-append rs [] h ∙ append-nil rs

pub records-below : (rs : List Record) → Each RecordOk rs → Each (λ r. Each (λ x. Below 256 (chars x)) r.parts) rs → Below 256 (records_bytes rs)
unfolding records_bytes
records-below [] h k = tt
records-below (r ∷ rs) h k =
    below-append 256 (record_bytes r) (records_bytes rs) (record-below r h.0 k.0) (records-below rs h.1 k.1)

-- ---- cells that are whole components or records

pub one_of : {l : List ℕ} {x : Component} → EncodedOne l x → component_in l ≡ x
one_of {l} {x} h = rw h.is (ap component_in (sym (append-nil (component_bytes x))) ∙ component-back x [] h.its_ok)

pub one-component : {l : List ℕ} {x : Component} → EncodedOne l x → OneComponent l
one-component {l} {x} h = rw (one_of h) h

pub components-of : {l : List ℕ} {xs : List Component} → Encoded l xs → components_in l ≡ xs
components-of {l} {xs} h = rw h.is (components-back xs h.all_ok)

pub whole-components : {l : List ℕ} {xs : List Component} → Encoded l xs → WholeComponents l
whole-components {l} {xs} h = rw (components-of h) h

pub records-of : {l : List ℕ} {rs : List Record} → EncodedRecords l rs → records_in l ≡ rs
records-of {l} {rs} h = rw h.is (records-back rs h.all_ok)

pub whole-records : {l : List ℕ} {rs : List Record} → EncodedRecords l rs → WholeRecords l
whole-records {l} {rs} h = rw (records-of h) h

-- the step of every walk
components-next : (l : List ℕ) (xs : List Component) → l ≡ components_bytes xs → Each Ok xs → 0 < length l → NextComponent l
unfolding components_bytes
components-next l [] e k h = absurd (omega (arith, ap length e))
components-next l (x ∷ xs) e k h =
    let s : component_size (cell l 0) ≡ length (component_bytes x) = rw e (component-long x (components_bytes xs) k.0) in
    let d : component_in l ≡ x = rw e (component-back x (components_bytes xs) k.0) in
    let r : drop (length (component_bytes x)) l ≡ components_bytes xs = rw e (drop-append_seam (component_bytes x) (components_bytes xs)) in
    let c : Encoded (drop (length (component_bytes x)) l) xs = record { is = r; all_ok = k.1 } in
    record {
      fits = omega (arith, simp length-append at (ap length e));
      some = omega (arith, component-some x);
      is = components-step l h;
      first = rw (s, d, e) (take-append_seam (component_bytes x) (components_bytes xs));
      first_ok = rw d k.0;
      rest = rw s (whole-components c);
    }

pub next-component : {l : List ℕ} → WholeComponents l → 0 < length l → NextComponent l
next-component {l} w h = components-next l (components_in l) w.is w.all_ok h

records-next : (l : List ℕ) (rs : List Record) → l ≡ records_bytes rs → Each RecordOk rs → 0 < length l → NextRecord l
unfolding records_bytes
records-next l [] e k h = absurd (omega (arith, ap length e))
records-next l (x ∷ rs) e k h =
    let s : 7 + two_at 3 l ≡ length (record_bytes x) = rw e (record-long x (records_bytes rs)) in
    let d : record_in l ≡ x = rw e (record-back x (records_bytes rs) k.0) in
    let r : drop (length (record_bytes x)) l ≡ records_bytes rs = rw e (drop-append_seam (record_bytes x) (records_bytes rs)) in
    let c : EncodedRecords (drop (length (record_bytes x)) l) rs = record { is = r; all_ok = k.1 } in
    record {
      fits = omega (arith, simp length-append at (ap length e));
      is = records-step l h;
      first = rw (s, d, e) (take-append_seam (record_bytes x) (records_bytes rs));
      first_ok = rw d k.0;
      rest = rw s (whole-records c);
    }

pub next-record : {l : List ℕ} → WholeRecords l → 0 < length l → NextRecord l
next-record {l} w h = records-next l (records_in l) w.is w.all_ok h

-- the step of a walk from the end
snoc : {X : Type 0} (x : X) (xs : List X) → (ts : List X) × (t : X) × (x ∷ xs ≡ ts ++ (t ∷ []))
snoc x [] = ([], x, refl)
snoc x (y ∷ xs) = let r = snoc y xs in (x ∷ r.0, r.1, ap (λ l. x ∷ l) r.2)

records-until : (l : List ℕ) (ts : List Record) (t : Record) → l ≡ records_bytes (ts ++ (t ∷ [])) → Each RecordOk (ts ++ (t ∷ [])) → LastRecord l
records-until l ts t e k =
    let b : List ℕ = records_bytes ts in
    let whole : l ≡ b ++ record_bytes t = e ∙ rw (records_bytes-append ts (t ∷ []), records_bytes-one t) in
    let s : last_size l ≡ length (record_bytes t) = rw whole (record-end b t) in
    let long : length l ≡ length b + length (record_bytes t) = rw whole (length-append b (record_bytes t)) in
    let n : length l - last_size l ≡ length b = omega arith in
    let front : take (length b) l ≡ b = rw whole (take-append_seam b (record_bytes t)) in
    let end : drop (length b) l ≡ record_bytes t = rw whole (drop-append_seam b (record_bytes t)) in
    let d : record_in (record_bytes t) ≡ t = one-record t (each_right RecordOk ts (t ∷ []) k).0 in
    let c : EncodedRecords b ts = record { is = refl; all_ok = each_left RecordOk ts (t ∷ []) k } in
    record {
      fits = omega arith;
      is = rw (n, front, end, d, records-of c, e) (records-back (ts ++ (t ∷ [])) k);
      last = rw (n, end, d);
      last_ok = rw (n, end, d) (each_right RecordOk ts (t ∷ []) k).0;
      rest = rw (n, front) (whole-records c);
    }

records-last : (l : List ℕ) (rs : List Record) → l ≡ records_bytes rs → Each RecordOk rs → 0 < length l → LastRecord l
unfolding records_bytes
records-last l [] e k h = absurd (omega (arith, ap length e))
records-last l (r ∷ rs) e k h =
    let q = snoc r rs in
    records-until l q.0 q.1 (e ∙ ap records_bytes q.2) (subst (Each RecordOk) q.2 k)

pub last-record : {l : List ℕ} → WholeRecords l → 0 < length l → LastRecord l
last-record {l} w h = records-last l (records_in l) w.is w.all_ok h

-- and at the end there is none
pub components-none : (l : List ℕ) → length l ≡ 0 → components_in l ≡ []
unfolding components_in components_from
components-none [] h = refl
components-none (x ∷ l) h = absurd (omega (arith, h))

pub records-none : (l : List ℕ) → length l ≡ 0 → records_in l ≡ []
unfolding records_in records_from
records-none [] h = refl
records-none (x ∷ l) h = absurd (omega (arith, h))
