-- What a test takes of the records after a pointer, in bytes: passed, taken away, copied with new addresses.
use mathlib.Core.Path.{◌≡◌, refl, sym, ap, ◌∙◌, subst}
use mathlib.Core.Bool.{Bool, true, false, cond}
use mathlib.Core.List.{List, [], ◌∷◌, map}
use Prim.Native.Nat.{ℕ, suc, ◌+◌, ◌≤◌, ◌<◌}
use native.Mathlib.Omega.{arith}
use lib.ListN.{length, take, length-map}
use lib.Seq.{length-take-le}
use Rattle.cells.specs.Cells.{pasted}
use Rattle.cells.proofs.Laws.{pasted-front}
use Rattle.lists.specs.Lists.{total}
use Rattle.lists.specs.ListLaws.{total-map}
use Rattle.language.specs.Limits as limit
use Rattle.language.specs.Letters.Letter.{P}
use Rattle.language.specs.Values.{Component, Record, Store, State}
use Rattle.machine.specs.Arguments.{file_of, Until, taken}
use Rattle.machine.specs.Changes.{with_files, put_file, minus_unless, stamped, stored, past_file, past_by, past}
use Rattle.layout.specs.Bounds.{Each, Ok, RecordOk, EncodedRecords}
use Rattle.layout.proofs.ComponentLaws.{records-of, whole-records}
use Rattle.layout.specs.Components.{records_bytes, records_in}
use Rattle.records.specs.Places.{Copyable}
use Rattle.records.specs.Sequences.{TookRecords, Totalled}
use Rattle.records.specs.declared.Sequence.{Sequence}
use Rattle.components.specs.declared.Amount.{Amount}
use Rattle.records.proofs.Stamps.{contents, stamped-long, reverse-long}
use Rattle.state.specs.Working.{HoldsState, Stands, on_store, nth, filing, turned, char_count}
use Rattle.state.proofs.Fits.{fine-limited}
use Rattle.state.proofs.Freed.{limited-past, removed-or-left}
use Rattle.state.proofs.Sequences.{total-ones, total-same, each-turned}
use Rattle.state.proofs.Standing.{after-state}
use Rattle.filing.specs.Files.{bodies, RecordsLent, FirstRecords, RecordsDroppable, Passable, RecordsWritable}
use Rattle.filing.proofs.Stored.{bodies-are}
use Rattle.filing.proofs.Removed.{components-past, chars-past, records-past}
use Rattle.instructions.proofs.Storing.{storing-done}
use Rattle.transfers.specs.Places.{room_of, Roomy, Lot}
use Rattle.transfers.proofs.Rooms.{room-stop, has_room, lot-fits, lot-last, lot-writable}
use Rattle.copying.specs.Copies.{passed, copied, Storing}

-- ---- new records

parts_ok : (rs : List Record) → Each RecordOk rs → Each (Each Ok) (contents rs)
parts_ok [] h = tt
parts_ok (r ∷ rs) h = (h.0.parts_ok, parts_ok rs h.1)

stamped-ok : (n : ℕ) (rs : List Record) → Each RecordOk rs → n + length rs ≤ limit.addresses → Each RecordOk (stamped n (contents rs))
unfolding stamped
stamped-ok n [] h l = tt
stamped-ok n (r ∷ rs) h l =
    (record { addr_most = omega (arith, l); parts_ok = h.0.parts_ok; bytes_below = h.0.bytes_below }, stamped-ok (suc n) rs h.1 (omega (arith, l)))

turned-long : (b : Bool) (rs : List Record) → length (records_bytes (turned b rs)) ≡ length (records_bytes rs)
turned-long true rs = reverse-long rs
turned-long false rs = refl

-- ---- what is taken

module _ (σ : State) {i : ℕ} {f : List ℕ} {u : Until Record} {t : Sequence} (b : i < limit.files)
    (l : RecordsLent (file_of σ.store (nth P i)).after f) (k : TookRecords u f t) where
  abbrev s : Store
  s = σ.store

  abbrev rs : List Record
  rs = (file_of s (nth P i)).after

  abbrev some : List Record
  some = take t.end.records rs

  took : taken u rs ≡ (t.end.records, t.reached)
  took = subst (λ (xs : List Record). taken u xs ≡ (t.end.records, t.reached)) l.is k.is

  pub front : EncodedRecords (take t.end.bytes f) some
  front = subst (λ (xs : List Record). EncodedRecords (take t.end.bytes f) (take t.end.records xs)) l.is k.cut.front

  most : t.end.records ≤ length rs
  most = subst (λ (xs : List Record). t.end.records ≤ length xs) l.is k.cut.most

  part-long : t.end.bytes ≡ length (take t.end.bytes f)
  part-long = sym (length-take-le t.end.bytes f k.cut.within)

  bytes-few : t.end.bytes ≤ 32768
  bytes-few = omega (arith, k.cut.within, l.most)

  bytes_is : t.end.bytes ≡ length (records_bytes some)
  bytes_is = part-long ∙ ap length front.is

  pub passable : Passable σ i t.end.records t.end.bytes
  passable = record { index = b; most = most; bytes_is = bytes_is }

  pub gone : (removes : Bool) {σ' : State}
      → HoldsState σ' (on_store (λ z. minus_unless t.reached (past (nth (filing removes) i) t.end.records z)) σ)
      → HoldsState σ' (on_store (passed u removes i) σ)
  unfolding on_store passed
  gone removes g = rw took g

  module _ {v : Amount} (w : Totalled (take t.end.bytes f) v) where
    first : FirstRecords rs t.end.records v.bytes v.parts v.chars
    first =
        record {
          most = most;
          bytes_is = w.bytes_is ∙ sym part-long ∙ bytes_is;
          parts_is = subst (λ (xs : List Record). v.parts ≡ total (λ r. total (λ x. 1) r.parts) xs) (records-of front) w.parts_is;
          chars_is = subst (λ (xs : List Record). v.chars ≡ total (λ r. char_count r.parts) xs) (records-of front) w.chars_is;
        }

    pub droppable : RecordsDroppable σ i t.end.records v.bytes v.parts v.chars
    droppable = record { index = b; first = first }

    -- ---- copied

    abbrev xs : List (List Component)
    xs = contents some

    module _ (h : Stands σ) (removes : Bool) where
      abbrev then : Store → Store
      then z = past (nth (filing removes) i) t.end.records z

      within : i < length s.files
      within = rw h.fine.files_is b

      last-stays : (c : Bool) → (past (nth (filing c) i) t.end.records s).last ≡ s.last
      unfolding past past_by past_file put_file with_files
      last-stays true = refl
      last-stays false = refl

      count_is : t.end.records ≡ length xs
      count_is = sym (length-map some (λ r. r.parts) ∙ length-take-le t.end.records rs most)

      abbrev added : ℕ → ℕ
      added m = cond removes 0 m

      lot : Lot s (then s) xs t.end.records v.parts v.chars (added t.end.records) (added v.parts) (added v.chars)
      lot =
          record {
            count = count_is;
            parts_is = first.parts_is ∙ sym (total-map (total (λ x. 1)) (λ r. r.parts) some) ∙ total-same (total (λ x. 1)) length total-ones xs;
            chars_is = first.chars_is ∙ sym (total-map char_count (λ r. r.parts) some);
            all_ok = parts_ok some front.all_ok;
            limited = limited-past s (fine-limited σ h.fine) (nth (filing removes) i) t.end.records;
            components_then = omega (arith, components-past s i t.end.records within first removes, removed-or-left removes v.parts);
            chars_then = omega (arith, chars-past s i t.end.records within first removes, removed-or-left removes v.chars);
            records_then = omega (arith, records-past s i t.end.records within first removes, removed-or-left removes t.end.records);
            last_is = last-stays removes;
          }

      module _ (c : Bool) {j : ℕ} (d : j < limit.files) {k₁ k₂ k₃ : ℕ} (a₁ : k₁ ≡ added t.end.records) (a₂ : k₂ ≡ added v.parts) (a₃ : k₃ ≡ added v.chars) where
        abbrev made : Store
        made = minus_unless t.reached (stored (nth (filing c) j) xs (then s))

        made-is : copied u removes i c j s ≡ made
        unfolding copied
        made-is = rw took refl

        pub copy-stop : {r : ℕ} → r ≡ room_of s k₁ k₂ k₃ t.end.records → (r ≡ 0 → ⊥) → Storing σ r σ (copied u removes i c j s)
        copy-stop y z q o w' =
            rw made-is
            (room-stop h q o w' made (added t.end.records) (added v.parts) (added v.chars) t.end.records (lot-fits lot c d t.reached) (lot-last lot c d t.reached) (rw (← a₁, ← a₂, ← a₃) y) z)

        module _ (y : 0 ≡ room_of s k₁ k₂ k₃ t.end.records) where
          roomy : Roomy s (added t.end.records) (added v.parts) (added v.chars) t.end.records
          roomy = has_room s (added t.end.records) (added v.parts) (added v.chars) t.end.records (rw (← a₁, ← a₂, ← a₃) y)

          pub copyable : {m : ℕ} → m ≡ s.last → {o : List ℕ} → length o ≡ 32768 → Copyable o (take t.end.bytes f) m
          copyable {m} q ro =
              record {
                room = omega (arith, part-long, bytes-few, ro);
                given = rw (records-of front) (omega (arith, q, roomy.addresses, length-take-le t.end.records rs most));
                whole = whole-records front;
              }

          module _ {m : ℕ} (q : m ≡ s.last) (o : List ℕ) {o' : List ℕ} (x : o' ≡ pasted o 0 (records_bytes (turned c (stamped m (map (λ r. r.parts) (records_in (take t.end.bytes f))))))) where
            new-long : length (records_bytes (turned c (stamped s.last xs))) ≡ t.end.bytes
            new-long = turned-long c (stamped s.last xs) ∙ stamped-long s.last some ∙ sym bytes_is

            new-records : EncodedRecords (take t.end.bytes o') (turned c (stamped s.last xs))
            new-records =
                let e₁ : o' ≡ pasted o 0 (records_bytes (turned c (stamped s.last xs))) = rw (← q, ← records-of front) x in
                record {
                  is = rw e₁ (pasted-front o (records_bytes (turned c (stamped s.last xs))) t.end.bytes new-long);
                  all_ok =
                      each-turned RecordOk c (stamped s.last xs)
                      (stamped-ok s.last some front.all_ok (omega (arith, roomy.addresses, length-take-le t.end.records rs most)));
                }

            module _ {σ' : State} (g : HoldsState σ' (on_store then σ)) where
              pub copy-writable : RecordsWritable σ' j c (take t.end.bytes o') t.end.records v.parts v.chars
              copy-writable = lot-writable lot c d σ then refl g new-records roomy

              pub copy_done : {σ'' : State}
                  → HoldsState σ'' (on_store (λ z'. minus_unless t.reached (stored (nth (filing c) j) (bodies c (take t.end.bytes o')) z')) σ')
                  → Storing σ 0 σ'' (copied u removes i c j s)
              unfolding on_store
              copy_done {σ'' = σ''} x' q' o'' w'' =
                  rw made-is
                  (storing-done h q' o'' w'' made
                  (after-state g (on_store (λ z'. minus_unless t.reached (stored (nth (filing c) j) xs z')))
                  (subst (λ (ys : List (List Component)). HoldsState σ'' (on_store (λ z'. minus_unless t.reached (stored (nth (filing c) j) ys z')) σ'))
                  (bodies-are c s.last xs new-records) x')))
