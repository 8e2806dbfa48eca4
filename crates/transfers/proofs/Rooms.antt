-- Questions 59 and 60 by totals, and records written to a store after what is removed was taken away.
use mathlib.Core.Path.{◌≡◌, refl, sym, ap, ◌∙◌, subst}
use mathlib.Core.Bool.{Bool, true, false, cond, ◌&&◌}
use mathlib.Core.List.{List}
use Prim.Native.Nat.{ℕ, ◌+◌, ◌≤◌, ◌<◌}
use native.Mathlib.Omega.{arith}
use lib.Dec.{leb}
use lib.ListN.{length}
use borrow.Author.Tests.{leb-true, leb-false}
use Rattle.lists.specs.Lists.{total}
use Rattle.language.specs.Limits as limit
use Rattle.language.specs.Values.{Component, Store, State, chars}
use Rattle.machine.specs.Arguments.{Asks}
use Rattle.machine.specs.Changes.{with_files, with_plus, minus_unless, stamped, stored, fits}
use Rattle.machine.specs.Effects.Go.{on}
use Rattle.layout.specs.Bounds.{EncodedRecords}
use Rattle.layout.proofs.ComponentLaws.{whole-records}
use Rattle.layout.specs.Memory.{components_held, chars_held, records_held}
use Rattle.state.specs.Working.{HoldsState, Stands, on_store, nth, filing, turned, char_count}
use Rattle.state.proofs.Fits.{fits-stored, fits-minus_unless}
use Rattle.state.proofs.Sequences.{total-ones, total-same}
use Rattle.state.proofs.Standing.{after-state}
use Rattle.filing.specs.Files.{bodies, RecordsWritable}
use Rattle.filing.proofs.Stored.{bodies-are, stamps-are, count_is, totals-are}
use Rattle.instructions.specs.Does.{Does, Quiet, stop_of}
use Rattle.instructions.proofs.Storing.{storing-full, storing-given}
use Rattle.transfers.specs.Places.{has_places, room_of, Roomy, Lot}

-- ---- the answer

pub left_most : (b : Bool) {k m r : ℕ} → r ≡ cond b 0 k → k ≤ m → r ≤ m
left_most true q l = omega (arith, q)
left_most false q l = omega (arith, q)

module _ (s : Store) (records parts chars given : ℕ) where
  -- 0 is told where there is room
  none : (a b c d : Bool) → ◌≡◌ {A = ℕ} (cond (a && b && c) (cond d 0 60) 59) 0 → (a ≡ true) × (b ≡ true) × (c ≡ true) × (d ≡ true)
  none true true true true q = (refl, refl, refl, refl)
  none true true true false q = absurd (omega (arith, q))
  none true true false d q = absurd (omega (arith, q))
  none true false c d q = absurd (omega (arith, q))
  none false b c d q = absurd (omega (arith, q))

  pub has_room : 0 ≡ room_of s records parts chars given → Roomy s records parts chars given
  has_room w =
      let y =
      none (leb (components_held s + parts) limit.components) (leb (chars_held s + chars) limit.characters) (leb (records_held s + records) limit.records)
      (leb (s.last + given) limit.addresses) (sym w) in
      record {
        components = leb-true (components_held s + parts) limit.components y.0;
        characters = leb-true (chars_held s + chars) limit.characters y.1;
        records_room = leb-true (records_held s + records) limit.records y.2;
        addresses = leb-true (s.last + given) limit.addresses y.3;
      }

-- the store t is refused by 59 or 60
module _ {σ : State} (h : Stands σ) (q : Asks) (k : Quiet q) (z : stop_of q ≡ 0) (t : Store) where
  abbrev store : Store
  store = σ.store

  stop_by : (given : ℕ) (a b : Bool) → fits t ≡ a → t.last ≡ store.last + given → leb (store.last + given) limit.addresses ≡ b → {r : ℕ}
      → r ≡ cond a (cond b 0 60) 59 → (r ≡ 0 → ⊥) → Does σ r σ (q, t, on)
  stop_by given true true x l y w v = absurd (v w)
  stop_by given true false x l y w v =
      subst (λ (m : ℕ). Does σ m σ (q, t, on)) (sym w) (storing-given h q k z t x (rw l (leb-false (store.last + given) limit.addresses y)))
  stop_by given false b x l y w v = subst (λ (m : ℕ). Does σ m σ (q, t, on)) (sym w) (storing-full h q k z t x)

  pub room-stop : (records parts chars given : ℕ) → fits t ≡ has_places store records parts chars → t.last ≡ store.last + given → {r : ℕ}
      → r ≡ room_of store records parts chars given → (r ≡ 0 → ⊥) → Does σ r σ (q, t, on)
  room-stop records parts chars given f l w v =
      stop_by given (has_places store records parts chars) (leb (store.last + given) limit.addresses) f l refl w v

-- ---- records written

ones-length : (xs : List (List Component)) → total (total (λ x. 1)) xs ≡ total length xs
ones-length xs = total-same (total (λ x. 1)) length total-ones xs

module _ {s t : Store} {xs : List (List Component)} {k c d records parts chars : ℕ} (m : Lot s t xs k c d records parts chars) (b : Bool) {j : ℕ} (l : j < limit.files) where
  within : j < length t.files
  within = rw m.limited.files_is l

  pub lot-fits : (r : Bool) → fits (minus_unless r (stored (nth (filing b) j) xs t)) ≡ has_places s records parts chars
  lot-fits r =
      fits-minus_unless r (stored (nth (filing b) j) xs t) ∙ fits-stored (nth (filing b) j) t within xs m.limited m.all_ok
      ∙ rw (← m.parts_is, ← m.chars_is, ← m.count, m.components_then, m.chars_then, m.records_then) refl

  pub lot-last : (r : Bool) → (minus_unless r (stored (nth (filing b) j) xs t)).last ≡ s.last + k
  unfolding minus_unless with_plus stored with_files
  lot-last r = rw (m.last_is, m.count) refl

  module _ (σ : State) (f : Store → Store) (w : f σ.store ≡ t) {σ' : State}
      (g : HoldsState σ' (on_store f σ)) {new : List ℕ} (y : EncodedRecords new (turned b (stamped s.last xs))) where
    store_then : σ'.store ≡ t
    unfolding on_store
    store_then = ap (λ (u : State). u.store) g.is ∙ w

    pub lot-writable : Roomy s records parts chars k → RecordsWritable σ' j b new k c d
    lot-writable z =
        let q = store_then in
        record {
          index = l;
          whole = whole-records y;
          stamps = rw (q, m.last_is) (stamps-are b s.last xs y);
          count = m.count ∙ sym (count_is b s.last xs y);
          parts_is = m.parts_is ∙ sym (ones-length xs) ∙ sym (totals-are b s.last xs y (total (λ x. 1)));
          chars_is = m.chars_is ∙ sym (totals-are b s.last xs y char_count);
          components_room = rw q (omega (arith, m.components_then, z.components));
          chars_room = rw q (omega (arith, m.chars_then, z.characters));
          records_room = rw q (omega (arith, m.records_then, z.records_room));
          addresses_room = rw q (omega (arith, m.last_is, z.addresses));
        }

    pub lot-stored : {σ'' : State} → HoldsState σ'' (on_store (stored (nth (filing b) j) (bodies b new)) σ')
        → HoldsState σ'' (on_store (λ u. stored (nth (filing b) j) xs (f u)) σ)
    unfolding on_store
    lot-stored {σ'' = σ''} x =
        after-state g (on_store (stored (nth (filing b) j) xs))
        (subst (λ (ys : List (List Component)). HoldsState σ'' (on_store (stored (nth (filing b) j) ys) σ')) (bodies-are b s.last xs y) x)
