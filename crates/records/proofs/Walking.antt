-- A walk over records under a test, and sums over records.
use mathlib.Core.Path.{◌≡◌, refl, sym, ap, ◌∙◌}
use mathlib.Core.Bool.{Bool, true, false}
use mathlib.Core.List.{List, [], ◌∷◌, ◌++◌}
use Prim.Native.Nat.{ℕ, ◌+◌, ◌≤◌, ◌<◌}
use native.Mathlib.Numerals.{add-one}
use native.Mathlib.Omega.{arith}
use lib.ListN.{length, take, drop, length-append, length-take}
use lib.Seq.{take-length}
use Rattle.language.specs.Values.{Component, Record, chars}
use Rattle.language.specs.Values.Component.{word}
use Rattle.cells.specs.Below.LayoutBounds.{Encoded, EncodedOne, OneComponent, WholeRecords}
use Rattle.cells.proofs.Below.ComponentLaws.{component-some, components_bytes-one, components-of, whole-components, one-component, one_of, components-none, record-length}
use Rattle.cells.specs.Below.Components.{component_in, components_in, components_bytes, record_in, records_in}
use Rattle.lists.specs.Lists.{total}
use Rattle.lists.specs.ListLaws.{total-append}
use Rattle.cells.specs.Below.MachineArguments.{Until, everything, number_of, up_to, first}
use Rattle.matching.specs.declared.Taken.{Taken}
use Rattle.matching.specs.declared.Test.{Test}
use Rattle.matching.specs.declared.Test.TheVariants.{All, Count, Class, Among}
use Rattle.matching.specs.Tests.{stops_before, ends, walked, until, Fitting, Took}
use Rattle.matching.proofs.Counting.{walked-taken, ends-reached}
use Rattle.records.proofs.Contents.{void-none}
use Rattle.records.proofs.Cuts.{cut-none, cut-split, cut-next, cut-end, cut_all}
use Rattle.records.proofs.Steps.{EndsAt}
use Rattle.records.specs.declared.RecordTest.{RecordTest}
use Rattle.records.specs.declared.RecordTest.TheVariants.{First, Whole}
use Rattle.records.specs.Places.{Part, Cut}
use Rattle.records.specs.Sequences.{on_first, until_records, stops_void, reached_records, FirstStoppable, TookRecords, part_total, char_total, Totalled}

-- ---- a test of the first component

on_first-stops : (u : Until Component) (k : ℕ) (r : Record) → stops_before (on_first u) k r ≡ stops_before u k (first r.parts)
on_first-stops everything k r = refl
on_first-stops (number_of n) k r = refl
on_first-stops (up_to p) k r = refl

on_first-ends : (u : Until Component) (k : ℕ) → ends (on_first u) k ≡ ends u k
on_first-ends everything k = refl
on_first-ends (number_of n) k = refl
on_first-ends (up_to p) k = refl

pub reached-is : (t : RecordTest) (k : ℕ) → ends (until_records t) k ≡ reached_records t k
reached-is (First t) k = on_first-ends (until t) k ∙ ends-reached t k
reached-is (Whole g) k = refl

pub void-is : (t : Test) (k : ℕ) → Fitting t → stops_before (until t) k (word []) ≡ stops_void t k
void-is All k h = refl
void-is (Count n) k h = refl
void-is (Class mask) k h = refl
void-is (Among g) k h = void-none (components_in g.now) h.all_ok

-- the first of no component is the empty word
pub first-none : (x : List ℕ) → length x ≡ 0 → first (components_in x) ≡ word []
first-none x h = rw (components-none x h)

-- cells, not none, of at most one component are that component
first_one : (x : List ℕ) (xs : List Component) → Encoded x xs → length xs ≤ 1 → 0 < length x → EncodedOne x (first xs)
unfolding components_bytes
first_one x [] e h k = absurd (omega (arith, ap length e.is))
first_one x (y ∷ []) e h k = record { is = e.is ∙ components_bytes-one y; its_ok = e.all_ok.0 }
first_one x (y ∷ z ∷ xs) e h k = absurd (omega (arith, h))

module _ {t : Test} {x : List ℕ} (h : FirstStoppable t x) (k : 0 < length x) where
  pub first-single : OneComponent x
  first-single = one-component (first_one x (components_in x) h.whole h.single k)

  pub first_is : component_in x ≡ first (components_in x)
  first_is = one_of (first_one x (components_in x) h.whole h.single k)

-- a part that is the first of some components, as a test asks of it
pub first-stoppable : {s : List ℕ} (xs : List Component) {x : List ℕ} {t : Test} → Part s (take 1 xs) x → Fitting t → FirstStoppable t x
first-stoppable {s} xs {x} {t} p h =
    record { whole = whole-components p.cells; single = rw (components-of p.cells) (simp length-take (omega arith)); fitting = h }

first-take : (xs : List Component) → first (take 1 xs) ≡ first xs
first-take [] = refl
first-take (x ∷ xs) = refl

-- what it tells of the first component of a record's contents c is what it tells of the record
pub first_stops : (u : Until Component) (k : ℕ) {s c x : List ℕ} (r : Record) {b : Bool} → Part s r.parts c → Part c (take 1 (components_in c)) x
    → b ≡ stops_before u k (first (components_in x)) → b ≡ stops_before (on_first u) k r
first_stops u k {s} {c} {x} r {b} p q e =
    let f : first (components_in x) ≡ first (components_in c) = rw (components-of q.cells) (first-take (components_in c)) in
    e ∙ ap (stops_before u k) (f ∙ ap first (components-of p.cells)) ∙ sym (on_first-stops u k r)

-- ---- the walk: the test takes the first k records, which end before cell `at`

pub record Going (s : List ℕ) (u : Until Record) (at k : ℕ) : Type 0 where
  pub cut : Cut s at k
  pub walk : walked u 0 (records_in s) ≡ walked u k (records_in (drop at s))

pub going-none : {s : List ℕ} (u : Until Record) → WholeRecords s → Going s u 0 0
going-none u w = record { cut = cut-none w; walk = refl }

module _ {s : List ℕ} {u : Until Record} {at k : ℕ} (g : Going s u at k) where
  took : (b : Bool) → walked u k (records_in (drop at s)) ≡ (k, b) → TookRecords u s (record { end = record { records = k; bytes = at }; reached = b })
  took b e = record { is = sym (walked-taken u (records_in s)) ∙ g.walk ∙ e; cut = g.cut }

  pub going-stop : {e : ℕ} {b : Bool} → EndsAt s at e → b ≡ stops_before u k (record_in (drop at s)) → b ≡ true → TookRecords u s (record { end = record { records = k; bytes = at }; reached = true })
  unfolding walked
  going-stop h e t = let q : stops_before u k (record_in (drop at s)) ≡ true = sym e ∙ t in took true (rw (h.first, q))

  pub going_next : {e : ℕ} {b : Bool} → EndsAt s at e → b ≡ stops_before u k (record_in (drop at s)) → b ≡ false → Going s u e (k + 1)
  unfolding walked
  going_next {e} h q t =
      let f : stops_before u k (record_in (drop at s)) ≡ false = sym q ∙ t in
      record { cut = cut-next g.cut h; walk = g.walk ∙ rw (h.first, f, add-one k) }

  pub going_end : length s ≡ at → TookRecords u s (record { end = record { records = k; bytes = length s }; reached = ends u k })
  unfolding walked
  going_end h = rw h (took (ends u k) (rw (cut-end g.cut (omega arith))))

-- ---- sums: the first k records, which end before cell `at`, have n components and m characters

pub record Summing (s : List ℕ) (at n m : ℕ) : Type 0 where
  pub done : ℕ
  pub cut : Cut s at done
  pub parts_is : n ≡ part_total (take done (records_in s))
  pub chars_is : m ≡ char_total (take done (records_in s))
  pub parts_most : n ≤ at
  pub chars_most : m ≤ at

pub summing-none : {s : List ℕ} → WholeRecords s → Summing s 0 0 0
summing-none w =
    record { done = 0; cut = cut-none w; parts_is = refl; chars_is = refl; parts_most = omega arith; chars_most = omega arith }

-- each component has a cell
components-least : (xs : List Component) → total (λ x. 1) xs ≤ length (components_bytes xs)
unfolding components_bytes
components-least [] = omega arith
components-least (x ∷ xs) = simp length-append (omega (arith, component-some x, components-least xs))

total-ones : (xs : List Component) → total (λ x. 1) xs ≡ length xs
total-ones [] = refl
total-ones (x ∷ xs) = omega (arith, total-ones xs)

-- what a count of all components in a part of `long` cells tells
pub record AllTaken (long : ℕ) (xs : List Component) (r : Taken) : Type 0 where
  pub parts_is : r.amount.parts ≡ total (λ x. 1) xs
  pub chars_is : r.amount.chars ≡ total (λ x. length (chars x)) xs
  pub parts_most : r.amount.parts ≤ length (components_bytes xs)
  pub chars_most : r.amount.chars ≤ length (components_bytes xs)
  pub bytes_most : length (components_bytes xs) ≤ long

pub all-taken : {s : List ℕ} {xs : List Component} {c : List ℕ} {r : Taken} → Part s xs c → Took everything (components_in c) r → AllTaken (length s) xs r
all-taken {s} {xs} {c} {r} p h =
    let e : components_in c ≡ xs = components-of p.cells in
    let k : Took everything xs r = rw e at h in
    let n : r.amount.parts ≡ length xs = sym (ap (λ q. q.0) k.is) in
    let t : take r.amount.parts xs ≡ xs = rw (n, take-length) in
    record {
      parts_is = omega (arith, total-ones xs);
      chars_is = rw t at k.chars_is;
      parts_most = omega (arith, total-ones xs, components-least xs);
      chars_most = omega (arith, k.chars_most, k.bytes_most);
      bytes_most = omega (arith, p.most, ap length p.cells.is);
    }

module _ {s : List ℕ} {at n m : ℕ} (g : Summing s at n m) where
  pub summing-next : {e : ℕ} {r : Taken} → EndsAt s at e → AllTaken (length s) (record_in (drop at s)).parts r → Summing s e (n + r.amount.parts) (m + r.amount.chars)
  summing-next {e} {r} h a =
      let x : Record = record_in (drop at s) in
      let rs : List Record = take g.done (records_in s) in
      let d : take (g.done + 1) (records_in s) ≡ rs ++ (x ∷ []) = rw (add-one g.done) (cut-split g.cut h).taken_is in
      record {
        done = g.done + 1;
        cut = cut-next g.cut h;
        parts_is = rw d (omega (arith, total-append (λ r. total (λ y. 1) r.parts) rs (x ∷ []), g.parts_is, a.parts_is));
        chars_is = rw d (omega (arith, total-append (λ r. total (λ y. length (chars y)) r.parts) rs (x ∷ []), g.chars_is, a.chars_is));
        parts_most = omega (arith, g.parts_most, a.parts_most, record-length x, h.is);
        chars_most = omega (arith, g.chars_most, a.chars_most, record-length x, h.is);
      }

  pub summing-end : length s ≡ at → Totalled s (record { parts = n; bytes = length s; chars = m })
  summing-end h =
      let all : take g.done (records_in s) ≡ records_in s = rw (cut_all g.cut (omega arith), take-length) in
      record {
        parts_is = rw all at g.parts_is;
        bytes_is = refl;
        chars_is = rw all at g.chars_is;
        parts_most = omega (arith, g.parts_most, g.cut.within);
        chars_most = omega (arith, g.chars_most, g.cut.within);
      }
