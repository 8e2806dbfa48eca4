-- The turns of the loops over addresses.
use mathlib.Core.Path.{◌≡◌, refl, sym, ap, ◌∙◌}
use mathlib.Core.List.{List, [], ◌∷◌, ◌++◌, map, append_assoc, append-nil}
use Prim.Native.Nat.{ℕ, ◌+◌, ◌<◌}
use native.Mathlib.Numerals.{add-one}
use native.Mathlib.Omega.{arith}
use lib.ListN.{length, take, set, length-set}
use lib.Seq.{take-suc-set}
use Rattle.layout.specs.Bounds.{WholeRecords}
use Rattle.layout.specs.Components.{record_in, records_in, addresses_in}
use Rattle.layout.proofs.ComponentLaws.{records-none}
use Rattle.records.specs.Places.{FrontRecord}
use Rattle.records.proofs.Steps.{record-same}
use Rattle.check_addresses.specs.Collected.{Collectable, Collected}

-- ---- collecting

-- the first k places of e, and the addresses of what is left
pub record Collecting (b d e : List ℕ) (k : ℕ) (left : List ℕ) : Type 0 where
  pub whole : WholeRecords left
  pub long : length e ≡ length d
  pub is : take k e ++ addresses_in left ≡ addresses_in b
  pub count : k + length (records_in left) ≡ length (records_in b)

pub collecting-none : {b d : List ℕ} → Collectable b (length d) → Collecting b d d 0 b
collecting-none c = record { whole = c.whole; long = refl; is = refl; count = omega arith }

module _ {b d : List ℕ} (c : Collectable b (length d)) {e : List ℕ} {k : ℕ} {left : List ℕ} (g : Collecting b d e k left) where
  module _ {r t : List ℕ} (f : FrontRecord left r t) where
    one_more : length (records_in left) ≡ 1 + length (records_in t)
    one_more = ap length f.first ∙ omega arith

    pub room : k < length e
    room = omega (arith, one_more, g.count, c.room, g.long)

    pub collecting-next : {a : ℕ} → a ≡ (record_in r).addr → Collecting b d (set e k a) (k + 1) t
    collecting-next {a} q =
        let h : a ≡ (record_in left).addr = q ∙ ap (λ x. x.addr) (record-same f) in
        let m : addresses_in left ≡ (record_in left).addr ∷ addresses_in t = ap (map (λ x. x.addr)) f.first in
        let x : take (k + 1) (set e k a) ≡ take k e ++ (a ∷ []) = rw (add-one k) (take-suc-set e k a room) in
        record {
          whole = f.rest;
          long = length-set e k a ∙ g.long;
          is = rw (x, append_assoc (take k e) (a ∷ []) (addresses_in t), h) (rw (← m) g.is);
          count = omega (arith, one_more, g.count);
        }

  pub collected : left ≡ [] → Collected b e k
  collected h =
      let z : records_in left ≡ [] = records-none left (ap length h) in
      record {
        is = sym (append-nil (take k e)) ∙ ap (λ rs. take k e ++ map (λ r. r.addr) rs) (sym z) ∙ g.is;
        count = omega (arith, ap length z, g.count);
      }
