-- New records: their cells, their addresses, and the loops that write them.
use mathlib.Core.Path.{◌≡◌, refl, sym, ap, ◌∙◌}
use mathlib.Core.List.{List, [], ◌∷◌, ◌++◌, map, reverse, append_assoc, map-append, reverse-append}
use Prim.Native.Nat.{ℕ, suc, ◌+◌, ◌-◌, ◌≤◌}
use native.Mathlib.Nat.{zero-add, sub-zero}
use native.Mathlib.Numerals.{add-one}
use native.Mathlib.Omega.{arith}
use lib.ListN.{length, take, drop, length-append, length-map, drop_of_length-le}
use lib.Seq.{take_at, drop_at, drop-drop, drop-append_seam, take-length, length-take-le}
use Rattle.cells.proofs.Laws.{pasted-pasted}
use Rattle.cells.specs.Cells.{pasted}
use Rattle.language.specs.Values.{Component, Record}
use Rattle.cells.specs.Below.LayoutCells.{two, three}
use Rattle.cells.proofs.Below.ComponentLaws.{record-length, records_bytes-append, records_bytes-one}
use Rattle.cells.specs.Below.Components.{record_bytes, records_bytes, components_in, record_in, records_in}
use Rattle.cells.specs.Below.Changes.{stamped}
use Rattle.lists.specs.Lists.{total}
use Rattle.lists.specs.ListLaws.{total-reverse}
use Rattle.records.proofs.Cuts.{cut-none, cut-split, cut-next, cut_all, cut-long}
use Rattle.records.proofs.Steps.{EndsAt, ends-cells}
use Rattle.records.specs.Places.{Cut, Recordable, Copyable}

-- the record of an address and of components
abbrev pub record_of : ℕ → List Component → Record
record_of n xs = record { addr = n; parts = xs }

-- one record, written cell after cell
pub put_record : {d : List ℕ} {a : ℕ} {c d₁ d₂ d₃ d₄ : List ℕ} → Recordable d a c → d₁ ≡ pasted d 0 (three a) → d₂ ≡ pasted d₁ 3 (two (length c)) → d₃ ≡ pasted d₂ 5 c
    → d₄ ≡ pasted d₃ (5 + length c) (two (length c)) → d₄ ≡ pasted d 0 (record_bytes (record_of a (components_in c)))
unfolding record_bytes
put_record {d} {a} {c} {d₁} {d₂} {d₃} {d₄} h q₁ q₂ q₃ q₄ =
    let e : List ℕ = two (length c) in
    let p₂ : d₂ ≡ pasted d 0 (three a ++ e) = q₂ ∙ rw q₁ (pasted-pasted d 0 (three a) e (omega (arith, h.room))) in
    let p₃ : d₃ ≡ pasted d 0 ((three a ++ e) ++ c) = q₃ ∙ rw p₂ (pasted-pasted d 0 (three a ++ e) c (omega (arith, h.room))) in
    let n : 5 + length c ≡ 0 + length ((three a ++ e) ++ c) = omega arith in
    let p₄ : d₄ ≡ pasted d 0 (((three a ++ e) ++ c) ++ e) = q₄ ∙ rw (n, p₃) (pasted-pasted d 0 ((three a ++ e) ++ c) e (omega (arith, h.room))) in
    p₄ ∙ rw (← h.whole.is)

-- ---- addresses

pub stamped-append : (n : ℕ) (xs ys : List (List Component)) → stamped n (xs ++ ys) ≡ stamped n xs ++ stamped (n + length xs) ys
unfolding stamped
stamped-append n [] ys = let q : n + 0 ≡ n = omega arith in rw q
stamped-append n (x ∷ xs) ys =
    let q : suc n + length xs ≡ n + suc (length xs) = omega arith in
    ap (λ rs. record_of (suc n) x ∷ rs) (stamped-append (suc n) xs ys ∙ rw q)

abbrev pub contents : List Record → List (List Component)
contents rs = map (λ r. r.parts) rs

-- new addresses change no length
pub stamped-long : (n : ℕ) (rs : List Record) → length (records_bytes (stamped n (contents rs))) ≡ length (records_bytes rs)
unfolding stamped records_bytes
stamped-long n [] = refl
stamped-long n (r ∷ rs) = simp length-append (omega (arith, record-length r, record-length (record_of (suc n) r.parts), stamped-long (suc n) rs))

-- one record
pub stamped-one : (n : ℕ) (xs : List Component) → records_bytes (stamped n (xs ∷ [])) ≡ record_bytes (record_of (n + 1) xs)
unfolding stamped
stamped-one n xs = records_bytes-one (record_of (suc n) xs) ∙ rw (add-one n)

-- a record's address replaced
pub restamped : (n : ℕ) (r : Record) (t : List ℕ) → three n ++ drop 3 (record_bytes r ++ t) ≡ record_bytes (record_of n r.parts) ++ t
unfolding record_bytes
restamped n r t = refl

-- one more record passed, with the next address
stamped-next : (last : ℕ) {s : List ℕ} {at k e : ℕ} → Cut s at k → EndsAt s at e
    → stamped last (contents (take (k + 1) (records_in s))) ≡ stamped last (contents (take k (records_in s))) ++ (record_of (last + k + 1) (record_in (drop at s)).parts ∷ [])
unfolding stamped
stamped-next last {s} {at} {k} {e} c h =
    let rs : List Record = records_in s in
    let r : Record = record_in (drop at s) in
    let n : length (contents (take k rs)) ≡ k = length-map (take k rs) (λ x. x.parts) ∙ length-take-le k rs c.most in
    let q : suc (last + k) ≡ last + k + 1 = omega arith in
    rw (add-one k, (cut-split c h).taken_is, map-append (λ x. x.parts) (take k rs) (r ∷ []), stamped-append last (contents (take k rs)) (r.parts ∷ []), n, q)

-- all records passed
stamped-all : (last : ℕ) {s : List ℕ} {at k : ℕ} → Cut s at k → length s ≤ at → stamped last (contents (take k (records_in s))) ≡ stamped last (contents (records_in s))
stamped-all last {s} {at} {k} c h = rw (cut_all c h, take-length)

-- cells in front of a list
front-pasted : (d l : List ℕ) (n : ℕ) → length l ≡ n → pasted d 0 l ≡ l ++ drop n d
front-pasted d l n h = rw (zero-add, h)

-- ---- the loop that writes them in their order

pub record Stamping (d₀ s : List ℕ) (last : ℕ) (d : List ℕ) (at k : ℕ) : Type 0 where
  pub done : ℕ
  pub count : k ≡ last + done + 1
  pub cut : Cut s at done
  pub long : length d ≡ length d₀
  pub is : d ≡ records_bytes (stamped last (contents (take done (records_in s)))) ++ (drop at s ++ drop (length s) d₀)

module _ {d₁ s : List ℕ} {last : ℕ} {d₀ : List ℕ} (h : Copyable d₁ s last) (q : d₀ ≡ pasted d₁ 0 s) where
  put-behind : drop (length s) d₀ ≡ drop (length s) d₁
  put-behind = rw (q, front-pasted d₁ s (length s) refl) (drop-append_seam s (drop (length s) d₁))

  pub stamping-none : Stamping d₀ s last d₀ 0 (last + 1)
  unfolding stamped records_bytes
  stamping-none =
      record { done = 0; count = omega arith; cut = cut-none h.whole; long = refl; is = rw put-behind (q ∙ front-pasted d₁ s (length s) refl) }

  pub stamping-end : {d : List ℕ} {at k : ℕ} → Stamping d₀ s last d at k → length s ≤ at → d ≡ pasted d₁ 0 (records_bytes (stamped last (contents (records_in s))))
  stamping-end {d} {at} {k} g l =
      let new : List ℕ = records_bytes (stamped last (contents (records_in s))) in
      let n : length new ≡ length s = stamped-long last (records_in s) ∙ ap length (sym h.whole.is) in
      g.is ∙ rw (stamped-all last g.cut l, drop_of_length-le s l, put-behind, front-pasted d₁ new (length s) n)

module _ {d₀ s : List ℕ} {last : ℕ} {d : List ℕ} {at k : ℕ} (g : Stamping d₀ s last d at k) where
  pub stamping-next : {e : ℕ} {d' : List ℕ} → EndsAt s at e → length d' ≡ length d → d' ≡ pasted d at (three k) → Stamping d₀ s last d' e (k + 1)
  stamping-next {e} {d'} h l q =
      let t : List ℕ = drop (length s) d₀ in
      let r : Record = record_in (drop at s) in
      let r' : Record = record_of k r.parts in
      let rs : List Record = stamped last (contents (take g.done (records_in s))) in
      let long : length (records_bytes rs) ≡ at = stamped-long last (take g.done (records_in s)) ∙ cut-long g.cut in
      let front : take at d ≡ records_bytes rs = ap (take at) g.is ∙ take_at (records_bytes rs) (drop at s ++ t) at long in
      let back : drop at d ≡ record_bytes r ++ (drop e s ++ t) = ap (drop at) g.is ∙ drop_at (records_bytes rs) (drop at s ++ t) at long ∙ ap (λ x. x ++ t) h.cells ∙ append_assoc (record_bytes r) (drop e s) t in
      let new : d' ≡ records_bytes rs ++ (record_bytes r' ++ (drop e s ++ t)) = q ∙ rw (front, ← drop-drop 3 at d, back) (ap (λ x. records_bytes rs ++ x) (restamped k r (drop e s ++ t))) in
      let n : last + g.done + 1 ≡ k = sym g.count in
      record {
        done = g.done + 1;
        count = omega (arith, g.count);
        cut = cut-next g.cut h;
        long = l ∙ g.long;
        is = new ∙ rw (stamped-next last g.cut h, n, records_bytes-append rs (r' ∷ []), records_bytes-one r', append_assoc);
      }

-- ---- the loop that writes the last one first

bytes-total : (rs : List Record) → length (records_bytes rs) ≡ total (λ r. length (record_bytes r)) rs
unfolding records_bytes
bytes-total [] = refl
bytes-total (r ∷ rs) = simp length-append (omega (arith, bytes-total rs))

pub reverse-long : (rs : List Record) → length (records_bytes (reverse rs)) ≡ length (records_bytes rs)
reverse-long rs = bytes-total (reverse rs) ∙ total-reverse (λ r. length (record_bytes r)) rs ∙ sym (bytes-total rs)

reverse-last : (rs : List Record) (r : Record) → records_bytes (reverse (rs ++ (r ∷ []))) ≡ record_bytes r ++ records_bytes (reverse rs)
unfolding records_bytes
reverse-last rs r = ap records_bytes (reverse-append rs (r ∷ []))

drop-pasted : (d : List ℕ) (at : ℕ) (l : List ℕ) → at ≤ length d → drop at (pasted d at l) ≡ l ++ drop (at + length l) d
drop-pasted d at l h = drop_at (take at d) (l ++ drop (at + length l) d) at (length-take-le at d h)

pub record Turning (d₀ s : List ℕ) (last n : ℕ) (d : List ℕ) (at k : ℕ) : Type 0 where
  pub done : ℕ
  pub count : k ≡ last + done + 1
  pub size_is : n ≡ length s
  pub cut : Cut s at done
  pub long : length d ≡ length d₀
  pub is : drop (n - at) d ≡ records_bytes (reverse (stamped last (contents (take done (records_in s))))) ++ drop n d₀

pub turning-none : {d s : List ℕ} {last : ℕ} → Copyable d s last → Turning d s last (length s) d 0 (last + 1)
unfolding stamped records_bytes
turning-none {d} {s} {last} h =
    record { done = 0; count = omega arith; size_is = refl; cut = cut-none h.whole; long = refl; is = ap (λ n. drop n d) (sub-zero (length s)) }

module _ {d₀ s : List ℕ} {last n : ℕ} {d : List ℕ} {at k : ℕ} (c : Copyable d₀ s last) (g : Turning d₀ s last n d at k) where
  pub turning-next : {e : ℕ} {d₁ d₂ : List ℕ} → EndsAt s at e → length d₁ ≡ length d → length d₂ ≡ length d₁ → d₁ ≡ pasted d (n - e) (take (e - at) (drop at s)) → d₂ ≡ pasted d₁ (n - e) (three k)
      → Turning d₀ s last n d₂ e (k + 1)
  turning-next {e} {d₁} {d₂} h l₁ l₂ q₁ q₂ =
      let r : Record = record_in (drop at s) in
      let r' : Record = record_of k r.parts in
      let rs : List Record = stamped last (contents (take g.done (records_in s))) in
      let m₁ : n - e ≤ length d = omega (arith, g.size_is, g.long, c.room) in
      let m₂ : n - e ≤ length d₁ = omega arith in
      let far : (n - e) + length (record_bytes r) ≡ n - at = omega (arith, h.is, h.within, g.size_is) in
      let b₁ : drop (n - e) d₁ ≡ record_bytes r ++ drop (n - at) d = rw (q₁, ends-cells h, drop-pasted d (n - e) (record_bytes r) m₁, far) in
      let b₂ : drop (n - e) d₂ ≡ record_bytes r' ++ drop (n - at) d = rw (q₂, drop-pasted d₁ (n - e) (three k) m₂, ← drop-drop 3 (n - e) d₁, b₁) (restamped k r (drop (n - at) d)) in
      let t : last + g.done + 1 ≡ k = sym g.count in
      record {
        done = g.done + 1;
        count = omega (arith, g.count);
        size_is = g.size_is;
        cut = cut-next g.cut h;
        long = l₂ ∙ l₁ ∙ g.long;
        is = b₂ ∙ rw (g.is, stamped-next last g.cut h, t, reverse-last rs r', append_assoc);
      }

  pub turning-end : n ≤ at → d ≡ pasted d₀ 0 (records_bytes (reverse (stamped last (contents (records_in s)))))
  turning-end h =
      let rs : List Record = stamped last (contents (records_in s)) in
      let z : n - at ≡ 0 = omega arith in
      let m : length (records_bytes (reverse rs)) ≡ n = reverse-long rs ∙ stamped-long last (records_in s) ∙ ap length (sym c.whole.is) ∙ sym g.size_is in
      rw z at g.is ∙ rw (stamped-all last g.cut (omega (arith, g.size_is)), front-pasted d₀ (records_bytes (reverse rs)) n m)
