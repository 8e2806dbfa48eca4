-- Where the record of an address stands, from what the two strings of a file tell.
use mathlib.Core.Path.{◌≡◌, refl, sym, ap, ◌∙◌, subst}
use mathlib.Core.Bool.{Bool, true, false, ◌||◌}
use mathlib.Core.List.{List, ◌++◌}
use Prim.Native.Nat.{ℕ, suc, ◌+◌, ◌≤◌}
use native.Mathlib.Omega.{arith}
use lib.Dec.{T, eqb}
use lib.ListN.{length, take}
use lib.Seq.{take-length}
use borrow.Author.Tests.{eq-eqb, ne_eqb}
use Rattle.std.specs.Prelude.{Some, Result, Ok, Err, is_ok, is_some, unwrap_or}
use Rattle.std.specs.Result.{result_ok}
use Rattle.std.proofs.lemmas.List.Folds.{list_any-append}
use Rattle.language.specs.Values.{Record}
use Rattle.layout.specs.Components.{records_bytes}
use Rattle.lists.specs.Lists.{any, ahead}
use Rattle.machine.specs.Changes.{records_to}
use Rattle.filing.specs.Files.{RecordsLent}
use Rattle.filing.proofs.Pointers.{ahead_before, ahead_after, first-before, first-after}
use Rattle.records.specs.Places.{of_address, place_in, Sought}
use Rattle.records.specs.declared.Place.{Place}
use Rattle.records.proofs.Cuts.{cut-long}
use Rattle.pointers.specs.Located.{Located}

pub located-front : {n : ℕ} → n ≡ 0 → (rs : List Record) → Located n rs (Some (record { records = 0; bytes = 0 }))
unfolding records_bytes
located-front {n} z rs = let q = eq-eqb n 0 z in record { is = rw q refl; place = record { count = rw q refl; bytes_is = refl } }

found-there : (r : Result Place Place) {p : Place} → result_ok r ≡ Some p → r ≡ Ok p
found-there (Ok q) e = ap (λ o. Ok (unwrap_or o q)) e
found-there (Err q) e = absurd (subst T (ap is_some (sym e)) tt)

-- a and b are the records xs before the pointer and ts after it
module _ {n : ℕ} (some : n ≡ 0 → ⊥) {xs : List Record} {a : List ℕ} (l : RecordsLent xs a) where
  abbrev q : Record → Bool
  q r = of_address n r

  found_in : {f : Result Place Place} → Sought n a f → is_ok f ≡ any q xs
  found_in h = h.is ∙ ap (any q) l.is

  to_is : (ts : List Record) {k : ℕ} → k ≡ suc (ahead q (xs ++ ts)) → k ≡ records_to n (xs ++ ts)
  to_is ts e = rw (ne_eqb n 0 some) e

  bytes_in : {f : Result Place Place} → Sought n a f → (place_in f).bytes ≡ length (records_bytes (take (place_in f).records xs))
  bytes_in {f} h = sym (cut-long h.cut) ∙ ap (λ (rs : List Record). length (records_bytes (take (place_in f).records rs))) l.is

  pub located-before : (ts : List Record) {p : Place} → Sought n a (Ok p) → Located n (xs ++ ts) (Some p)
  located-before ts {p} h =
      let y : any q xs ≡ true = sym (found_in h) in
      let c : p.records ≡ suc (ahead q xs) = subst (λ (rs : List Record). p.records ≡ suc (ahead q rs)) l.is h.count in
      let m : p.records ≤ length xs = subst (λ (rs : List Record). p.records ≤ length rs) l.is h.cut.most in
      record {
        is = rw (ne_eqb n 0 some, list_any-append q xs ts, y) refl;
        place = record {
          count = to_is ts (c ∙ ap suc (sym (ahead_before q ts xs y)));
          bytes_is = first-before xs ts p.records m (bytes_in h);
        };
      }

  module _ {ts : List Record} {b : List ℕ} (k : RecordsLent ts b) {f : Place} (h : Sought n a (Err f)) where
    none-before : any q xs ≡ false
    none-before = sym (found_in h)

    found-after : {g : Result Place Place} → Sought n b g → (eqb n 0 || any q (xs ++ ts)) ≡ is_ok g
    found-after w = sym (w.is ∙ rw (ne_eqb n 0 some, list_any-append q xs ts, none-before, k.is) refl)

    pub located_after : {r : Result Place Place} → Sought n b r → {g : Place} → result_ok r ≡ Some g → Located n (xs ++ ts) (Some (record { records = f.records + g.records; bytes = f.bytes + g.bytes }))
    located_after {r} v {g} o =
        let w : Sought n b (Ok g) = subst (Sought n b) (found-there r o) v in
        let c : f.records ≡ length xs = subst (λ (rs : List Record). f.records ≡ length rs) l.is h.count in
        let m : f.bytes ≡ length (records_bytes xs) = bytes_in h ∙ rw c (ap (λ (rs : List Record). length (records_bytes rs)) (take-length xs)) in
        let e : g.bytes ≡ length (records_bytes (take g.records ts)) =
        sym (cut-long w.cut) ∙ ap (λ (rs : List Record). length (records_bytes (take g.records rs))) k.is in
        let d : g.records ≡ suc (ahead q ts) = subst (λ (rs : List Record). g.records ≡ suc (ahead q rs)) k.is w.count in
        record {
          is = sym (found-after w);
          place = record {
            count = to_is ts (omega (arith, c, d, ahead_after q ts xs none-before));
            bytes_is = rw (c, m) (first-after xs ts g.records e);
          };
        }
