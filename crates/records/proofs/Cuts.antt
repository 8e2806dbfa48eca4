-- Strings cut behind some of their records: none, one more, all; a search for an address.
use mathlib.Core.Path.{◌≡◌, refl, sym, ap, ◌∙◌}
use mathlib.Core.Bool.{true, false}
use mathlib.Core.List.{List, [], ◌∷◌, ◌++◌}
use Prim.Native.Nat.{ℕ, ◌+◌, ◌-◌, ◌≤◌}
use native.Mathlib.Numerals.{add-one}
use native.Mathlib.Omega.{arith}
use lib.ListN.{length, take, drop, length-drop}
use lib.Seq.{take-add, length-take-le}
use Rattle.std.specs.Prelude.{Ok, Err}
use Rattle.lists.specs.LoopLaws.{ahead-zero, ahead-suc}
use Rattle.language.specs.Values.{Record}
use Rattle.cells.specs.Below.LayoutBounds.{RecordOk, WholeRecords}
use Rattle.cells.proofs.Below.LayoutCellLaws.{each_append}
use Rattle.cells.proofs.Below.ComponentLaws.{records_bytes-append, records_bytes-one, records-of, records-none}
use Rattle.cells.specs.Below.Components.{record_bytes, records_bytes, record_in, records_in}
use Rattle.lists.specs.Lists.{any, ahead}
use Rattle.matching.proofs.Loops.{Split, split}
use Rattle.records.proofs.Steps.{EndsAt, ends-cells}
use Rattle.records.specs.Places.{Cut, of_address, Sought}

-- ---- a cut

pub cut-none : {s : List ℕ} → WholeRecords s → Cut s 0 0
unfolding records_bytes
cut-none {s} w =
    record { within = omega arith; most = omega arith; front = record { is = refl; all_ok = tt }; rest = w; small = omega arith }

module _ {s : List ℕ} {at k : ℕ} (c : Cut s at k) where
  pub cut_left : records_in (drop at s) ≡ drop k (records_in s)
  cut_left = records-of c.rest

  pub cut-split : {e : ℕ} → EndsAt s at e → Split k (records_in s) (records_in (drop e s)) (record_in (drop at s))
  cut-split {e} h = split k (records_in s) (records_in (drop e s)) (record_in (drop at s)) (sym cut_left ∙ h.first)

  pub cut-next : {e : ℕ} → EndsAt s at e → Cut s e (k + 1)
  cut-next {e} h =
      let rs : List Record = records_in s in
      let r : Record = record_in (drop at s) in
      let d = cut-split h in
      let far : at + (e - at) ≡ e = omega (arith, h.more) in
      let all : take e s ≡ records_bytes (take k rs) ++ record_bytes r = ap (λ n. take n s) (sym far) ∙ take-add at (e - at) s ∙ rw (ends-cells h, ← c.front.is) in
      rw add-one record {
        within = h.within;
        most = d.most;
        front = record {
          is = all ∙ rw (d.taken_is, records_bytes-append (take k rs) (r ∷ []), records_bytes-one r);
          all_ok = rw d.taken_is (each_append RecordOk (take k rs) (r ∷ []) c.front.all_ok (h.first_ok, tt));
        };
        rest = rw d.left_is h.rest;
        small = omega (arith, c.small, h.more);
      }

  -- where no cell is left, all records are counted
  pub cut-end : length s ≤ at → records_in (drop at s) ≡ []
  cut-end h = records-none (drop at s) (rw length-drop (omega arith))

  pub cut_all : length s ≤ at → k ≡ length (records_in s)
  cut_all h = omega (arith, length-drop k (records_in s), ap length (sym cut_left ∙ cut-end h), c.most)

  -- how many cells it has
  pub cut-long : length (records_bytes (take k (records_in s))) ≡ at
  cut-long = ap length (sym c.front.is) ∙ length-take-le at s c.within

-- ---- the search for an address

pub record Seeking (n : ℕ) (s : List ℕ) (at k : ℕ) : Type 0 where
  pub cut : Cut s at k
  pub any_is : any (of_address n) (records_in s) ≡ any (of_address n) (records_in (drop at s))
  pub ahead_is : ahead (of_address n) (records_in s) ≡ k + ahead (of_address n) (records_in (drop at s))

pub seeking-none : (n : ℕ) {s : List ℕ} → WholeRecords s → Seeking n s 0 0
seeking-none n {s} w = record { cut = cut-none w; any_is = refl; ahead_is = omega arith }

module _ {n : ℕ} {s : List ℕ} {at k : ℕ} (g : Seeking n s at k) where
  pub seeking-next : {e : ℕ} → EndsAt s at e → of_address n (record_in (drop at s)) ≡ false → Seeking n s e (k + 1)
  seeking-next {e} h q =
      record {
        cut = cut-next g.cut h;
        any_is = g.any_is ∙ rw (h.first, q);
        ahead_is = g.ahead_is ∙ rw (h.first, ahead-suc (of_address n) (record_in (drop at s)) (records_in (drop e s)) q) (omega arith);
      }

  pub seeking-here : {e : ℕ} → EndsAt s at e → of_address n (record_in (drop at s)) ≡ true → Sought n s (Ok (record { records = k + 1; bytes = e }))
  seeking-here {e} h q =
      let a : ahead (of_address n) (records_in (drop at s)) ≡ 0 = rw h.first (ahead-zero (of_address n) (record_in (drop at s)) (records_in (drop e s)) q) in
      record {
        is = sym (g.any_is ∙ rw (h.first, q));
        count = omega (arith, g.ahead_is, a);
        cut = cut-next g.cut h;
      }

  pub seeking-end : length s ≡ at → Sought n s (Err (record { records = k; bytes = length s }))
  seeking-end h =
      let m : length s ≤ at = omega arith in
      record {
        is = sym (g.any_is ∙ rw (cut-end g.cut m));
        count = cut_all g.cut m;
        cut = rw h g.cut;
      }
