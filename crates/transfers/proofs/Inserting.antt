-- WSTAW: an expression as a record.
use mathlib.Core.Path.{◌≡◌, refl, sym, ap, ◌∙◌, subst}
use mathlib.Core.Bool.{Bool, true, false, cond}
use mathlib.Core.List.{List, [], ◌∷◌}
use Prim.Native.Nat.{ℕ, suc, ◌+◌, ◌≤◌, ◌<◌}
use native.Mathlib.Omega.{arith}
use lib.ListN.{length, take}
use lib.Seq.{take-length}
use Rattle.cells.specs.Cells.{pasted}
use Rattle.cells.proofs.Laws.{pasted-front}
use Rattle.lists.specs.Lists.{total, filled}
use Rattle.language.specs.Limits as limit
use Rattle.language.specs.Letters.Letter.{E}
use Rattle.language.specs.Program.{Program}
use Rattle.language.specs.Program.Arg.{nothing}
use Rattle.language.specs.Program.Op.{WSTAW}
use Rattle.language.specs.Values.{Component, Store, State, Inputs, chars}
use Rattle.machine.specs.Arguments.{expr, none, everything}
use Rattle.machine.specs.Changes.{with_exprs, with_plus, put_expr, minus, minus_unless, stamped, stored, past_by, past, held}
use Rattle.machine.specs.Effects.{Row, moved, row}
use Rattle.machine.specs.Effects.Go.{on}
use Rattle.layout.specs.Bounds.{Each, Ok, RecordOk, EncodedRecords}
use Rattle.layout.proofs.ComponentLaws.{next-component, components-none, components_most, record-length}
use Rattle.layout.specs.Components.{components_bytes, record_bytes, components_in}
use Rattle.layout.specs.Memory.{records_held}
use Rattle.matching.specs.Tests.{Took}
use Rattle.matching.specs.declared.Taken.{Taken}
use Rattle.records.specs.Places.{Recordable}
use Rattle.records.proofs.Stamps.{record_of, stamped-one}
use Rattle.state.specs.Blocks.{ExprLent, FirstParts}
use Rattle.state.specs.Working.{HoldsState, Stands, on_store, nth, reading, filing, turned, char_count}
use Rattle.state.proofs.Fits.{fine-limited}
use Rattle.state.proofs.Freed.{limited-past, held-off, recorded-off, removed-or-left, components-past, chars-past}
use Rattle.state.proofs.Sequences.{total-ones}
use Rattle.filing.specs.Files.{bodies, RecordsWritable}
use Rattle.instructions.specs.Does.{DoesFor}
use Rattle.instructions.proofs.Storing.{quiet_none, plain_done}
use Rattle.transfers.specs.Places.{room_of, Roomy, Lot}
use Rattle.transfers.proofs.Rooms.{room-stop, has_room, lot-fits, lot-last, lot-writable, lot-stored}

-- a record by itself is the same turned round
pub one-turned : (b : Bool) (n : ℕ) (xs : List Component) → turned b (stamped n (xs ∷ [])) ≡ stamped n (xs ∷ [])
unfolding stamped
one-turned true n xs = refl
one-turned false n xs = refl

pub plus-same : (s : Store) → minus_unless true s ≡ s
unfolding minus_unless with_plus
plus-same s = refl

-- the bytes of a new record of the components xs
module _ (b : Bool) (n : ℕ) (xs : List Component) (ok : Each Ok xs) (below : length (components_bytes xs) < 65536) (given : n + 1 ≤ limit.addresses) (d : List ℕ) {d' : List ℕ}
    (w : d' ≡ pasted d 0 (record_bytes (record_of (n + 1) xs))) {m : ℕ} (q : m ≡ length (components_bytes xs)) where
  one-long : length (record_bytes (record_of (n + 1) xs)) ≡ m + 7
  one-long = record-length (record_of (n + 1) xs) ∙ omega (arith, q)

  one_ok : RecordOk (record_of (suc n) xs)
  one_ok = record { addr_most = omega (arith, given); parts_ok = ok; bytes_below = below }

  each-one : Each RecordOk (stamped n (xs ∷ []))
  unfolding stamped
  each-one = (one_ok, tt)

  pub one-encoded : EncodedRecords (take (m + 7) d') (turned b (stamped n (xs ∷ [])))
  one-encoded =
      rw (one-turned b n xs)
      (record {
        is = rw w (pasted-front d (record_bytes (record_of (n + 1) xs)) (m + 7) one-long) ∙ sym (stamped-one n xs);
        all_ok = each-one;
      })

module _ {σ : State} (h : Stands σ) (removes : Bool) {i : ℕ} (a : i < limit.expressions) {x : List ℕ} (l : ExprLent σ i x) (b : Bool) {j : ℕ}
    (d : j < limit.files) where
  abbrev s : Store
  s = σ.store

  abbrev xs : List Component
  xs = expr s (nth E i)

  abbrev by : Program → Inputs → Row
  by g ins = row g ins s (nth (reading removes) i) (nth (filing b) j) nothing WSTAW

  -- after k components are read past
  abbrev then : ℕ → Store → Store
  then k u = past (nth (reading removes) i) k u

  row_by : (r : Bool) (g : Program) (ins : Inputs)
      → row g ins s (nth (reading r) i) (nth (filing b) j) nothing WSTAW
      ≡ (none, cond (filled xs) (minus_unless true (stored (nth (filing b) j) (xs ∷ []) (past (nth (reading r) i) (length xs) s))) (minus s), on)
  unfolding row moved
  row_by true g ins = refl
  row_by false g ins = refl

  pub wstaw-none : length x ≡ 0 → {σ' : State} → HoldsState σ' (on_store (with_plus false) σ) → DoesFor σ 0 σ' by
  unfolding minus
  wstaw-none z k g ins =
      let q : xs ≡ [] = sym l.is ∙ components-none x z in
      rw (row_by removes g ins, ap filled q) (plain_done (with_plus false) k)

  module _ (z : length x ≡ 0 → ⊥) {t : Taken} (k : Took everything (components_in x) t) where
    took : Took everything xs t
    took = subst (λ (ys : List Component). Took everything ys t) l.is k

    all_parts : length xs ≡ t.amount.parts
    all_parts = ap (λ y. y.0) took.is

    some-there : filled xs ≡ true
    some-there = rw (sym l.is ∙ (next-component l.whole (omega (arith, z))).is) refl

    all-taken : take t.amount.parts xs ≡ xs
    all-taken = rw (← all_parts) (take-length xs)

    pub first : FirstParts xs t.amount.parts t.amount.bytes t.amount.chars
    first = record { most = omega (arith, all_parts); bytes_is = took.bytes_is; chars_is = took.chars_is }

    abbrev inserted : Store → Store
    inserted u = stored (nth (filing b) j) (xs ∷ []) (then t.amount.parts u)

    row_is : (g : Program) (ins : Inputs) → by g ins ≡ (none, minus_unless true (inserted s), on)
    row_is g ins = row_by removes g ins ∙ rw (some-there, all_parts) refl

    within : i < length s.exprs
    within = rw h.fine.exprs_is a

    records-stay : (r : Bool) → records_held (past (nth (reading r) i) t.amount.parts s) ≡ records_held s
    unfolding past past_by
    records-stay true = recorded-off s i t.amount.parts within (λ r. 1)
    records-stay false = refl

    last-stays : (r : Bool) → (past (nth (reading r) i) t.amount.parts s).last ≡ s.last
    unfolding past past_by put_expr with_exprs
    last-stays true = refl
    last-stays false = refl

    pub lot : Lot s (then t.amount.parts s) (xs ∷ []) 1 t.amount.parts t.amount.chars 1 (cond removes 0 t.amount.parts) (cond removes 0 t.amount.chars)
    lot =
        record {
          count = refl;
          parts_is = omega (arith, all_parts);
          chars_is = omega (arith, took.chars_is, ap char_count all-taken);
          all_ok = (l.encoded.all_ok, tt);
          limited = limited-past s (fine-limited σ h.fine) (nth (reading removes) i) t.amount.parts;
          components_then = omega (arith, components-past s i t.amount.parts within first removes, removed-or-left removes t.amount.parts);
          chars_then = omega (arith, chars-past s i t.amount.parts within first removes, removed-or-left removes t.amount.chars);
          records_then = omega (arith, records-stay removes);
          last_is = last-stays removes;
        }

    total-held : (g : Component → ℕ) → total g xs ≤ held g s
    total-held g = omega (arith, held-off s i t.amount.parts within g, ap (total g) all-taken)

    pub few_bytes : length x ≤ 13312
    few_bytes =
        omega (
          arith,
          ap length l.encoded.is,
          components_most xs,
          total-held (λ y. 1),
          total-held (λ y. length (chars y)),
          h.fine.components_most,
          h.fine.chars_most,
        )

    pub parts-few : t.amount.parts ≤ 65536
    parts-few = omega (arith, all_parts, total-ones xs, total-held (λ y. 1), h.fine.components_most)

    pub chars-few : t.amount.chars ≤ 65536
    chars-few = omega (arith, took.chars_most, took.bytes_most, ap length l.encoded.is, few_bytes)

    module _ {c d' : ℕ} (u : c ≡ cond removes 0 t.amount.parts) (v : d' ≡ cond removes 0 t.amount.chars) where
      pub wstaw-stop : {r : ℕ} → r ≡ room_of s 1 c d' 1 → (r ≡ 0 → ⊥) → DoesFor σ r σ by
      wstaw-stop w y g ins =
          rw (row_is g ins)
          (room-stop h none quiet_none refl (minus_unless true (inserted s)) 1 (cond removes 0 t.amount.parts) (cond removes 0 t.amount.chars) 1 (lot-fits lot b d true) (lot-last lot b d true) (rw (← u, ← v) w) y)

      module _ (w : 0 ≡ room_of s 1 c d' 1) where
        pub roomy : Roomy s 1 (cond removes 0 t.amount.parts) (cond removes 0 t.amount.chars) 1
        roomy = has_room s 1 (cond removes 0 t.amount.parts) (cond removes 0 t.amount.chars) 1 (rw (← u, ← v) w)

        pub recordable : {o : List ℕ} → length o ≡ 32768 → {m : ℕ} → m ≡ s.last → Recordable o (m + 1) x
        recordable ro q = record { room = omega (arith, few_bytes, ro); small = omega (arith, few_bytes); given = omega (arith, roomy.addresses, q); whole = l.whole }

        module _ {m : ℕ} (q : m ≡ s.last) (o : List ℕ) {o' : List ℕ} (put : o' ≡ pasted o 0 (record_bytes (record_of (m + 1) (components_in x)))) where
          new-record : EncodedRecords (take (length x + 7) o') (turned b (stamped s.last (xs ∷ [])))
          new-record =
              one-encoded b s.last xs l.encoded.all_ok (omega (arith, few_bytes, ap length l.encoded.is)) roomy.addresses o
              (rw (← q, ← l.is) put) (ap length l.encoded.is)

          module _ {σ' : State} (g : HoldsState σ' (on_store (then t.amount.parts) σ)) where
            pub wstaw-writable : RecordsWritable σ' j b (take (length x + 7) o') 1 t.amount.parts t.amount.chars
            wstaw-writable = lot-writable lot b d σ (then t.amount.parts) refl g new-record roomy

            pub wstaw-done : {σ'' : State} → HoldsState σ'' (on_store (stored (nth (filing b) j) (bodies b (take (length x + 7) o'))) σ')
                → DoesFor σ 0 σ'' by
            wstaw-done f g' ins =
                rw (row_is g' ins, plus-same (inserted s)) (plain_done inserted (lot-stored lot b d σ (then t.amount.parts) refl g new-record f))
