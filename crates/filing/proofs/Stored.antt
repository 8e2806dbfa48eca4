-- The state at work after new records are written.
use mathlib.Core.Path.{◌≡◌, refl, sym, ap, ◌∙◌}
use mathlib.Core.Bool.{Bool, true, false}
use mathlib.Core.List.{List, [], ◌∷◌, ◌++◌, map}
use Prim.Native.Nat.{ℕ, ◌≤◌, suc, ◌+◌, ◌<◌}
use native.Mathlib.Omega.{arith}
use lib.ListN.{length, get_or, set, length-map}
use lib.Seq.{get_or-set_other, set-get_or}
use Rattle.lists.specs.Lists.{total}
use Rattle.lists.specs.ListLaws.{total-map}
use Rattle.language.specs.Limits as limit
use Rattle.language.specs.Letters.Letter.{P}
use Rattle.language.specs.Values.{Component, Record, File, Store, chars, State}
use Rattle.machine.specs.Arguments.{file_of, records}
use Rattle.machine.specs.Changes.{with_files, stamped, stored}
use Rattle.layout.specs.Bounds.{Each, EncodedRecords, RecordOk, FileOk}
use Rattle.layout.proofs.CellLaws.{each_append}
use Rattle.layout.proofs.ComponentLaws.{records_bytes-append, records-of}
use Rattle.layout.specs.Components.{records_bytes, records_in}
use Rattle.layout.specs.Memory.{components_held, chars_held, records_held, strings}
use Rattle.layout.proofs.MemoryLaws.{length-strings, before-encoded, after-encoded}
use Rattle.layout.proofs.FineLaws.{fine-room}
use Rattle.layout.specs.Strings.{used}
use Rattle.layout.specs.Places as layout
use Rattle.store.proofs.Laws.{used-pushed-front, used-pushed-back}
use Rattle.store.specs.Below.Gaps.{pushed_front, pushed_back}
use Rattle.store.specs.Below.Pool.{string}
use Rattle.state.specs.Blocks.{totalled}
use Rattle.layout.specs.Places.{before_string, after_string}
use Rattle.state.specs.Working.{Lies, on_store, nth, filing, turned, filed, part_total, char_total}
use Rattle.state.proofs.Fits.{filed-total}
use Rattle.state.proofs.Sequences.{total-ones, turned-twice, turned-length, turned-total}
use Rattle.state.proofs.Ties.{turns-so, stored_is}
use Rattle.filing.specs.Files.{bodies, RecordsWritable, Insertable, inserted}
use Rattle.filing.proofs.Pointers.{apart}
use Rattle.filing.proofs.Replaced.{strings-then, fine-then, holds-file}

-- ---- records with new addresses

stamped-bodies : (n : ℕ) (xs : List (List Component)) → map (λ r. r.parts) (stamped n xs) ≡ xs
unfolding stamped
stamped-bodies n [] = refl
stamped-bodies n (x ∷ xs) = ap (λ (l : List (List Component)). x ∷ l) (stamped-bodies (suc n) xs)

-- bytes of new records for these components
module _ {new : List ℕ} (b : Bool) (n : ℕ) (xs : List (List Component)) (h : EncodedRecords new (turned b (stamped n xs))) where
  in_order : turned b (records_in new) ≡ stamped n xs
  in_order = ap (turned b) (records-of h) ∙ turned-twice b (stamped n xs)

  pub bodies-are : bodies b new ≡ xs
  bodies-are = ap (map (λ r. r.parts)) in_order ∙ stamped-bodies n xs

  pub stamps-are : turned b (records_in new) ≡ stamped n (bodies b new)
  stamps-are = in_order ∙ ap (stamped n) (sym bodies-are)

  -- as many, with as much in them
  pub count_is : length (records_in new) ≡ length xs
  count_is = sym (turned-length b (records_in new)) ∙ sym (length-map (turned b (records_in new)) (λ r. r.parts)) ∙ ap length bodies-are

  pub totals-are : (g : List Component → ℕ) → total (λ r. g r.parts) (records_in new) ≡ total g xs
  totals-are g =
      sym (turned-total (λ r. g r.parts) b (records_in new)) ∙ sym (total-map g (λ r. r.parts) (turned b (records_in new))) ∙ ap (total g) bodies-are

-- ---- a file with records to its pointer

filed-ok : (b : Bool) (rs : List Record) (f : File) → Each RecordOk rs → FileOk f → FileOk (filed b rs f)
filed-ok true rs f h k = record { before_ok = k.before_ok; after_ok = each_append RecordOk rs f.after h k.after_ok }
filed-ok false rs f h k = record { before_ok = each_append RecordOk f.before rs k.before_ok h; after_ok = k.after_ok }

module _ (s : List (List ℕ)) (i : ℕ) (f : File) (x : string (before_string i) s ≡ records_bytes f.before) (y : string (after_string i) s ≡ records_bytes f.after)
    (rs : List Record) where
  inserted-is : (b : Bool) → inserted b i (records_bytes rs) s
      ≡ set (set s (before_string i) (records_bytes (filed b rs f).before)) (after_string i) (records_bytes (filed b rs f).after)
  unfolding inserted pushed_front pushed_back
  inserted-is true = rw (records_bytes-append rs f.after, ← x, set-get_or s (before_string i) [], y)
  inserted-is false =
      let v : List ℕ = records_bytes f.before ++ records_bytes rs in
      let t : List (List ℕ) = set s (before_string i) v in
      let w : string (after_string i) t ≡ records_bytes f.after = get_or-set_other s (before_string i) (after_string i) v [] (apart i i) ∙ y in
      rw (records_bytes-append f.before rs, x, ← w) (sym (set-get_or t (after_string i) []))

used-inserted : (b : Bool) (i : ℕ) (v : List ℕ) (s : List (List ℕ)) → i < limit.files → length s ≡ layout.strings_count → used (inserted b i v s) ≡ used s + length v
unfolding inserted
used-inserted true i v s l q = used-pushed-front s (after_string i) (omega arith) v
used-inserted false i v s l q = used-pushed-back s (before_string i) (omega arith) v

stored-to : (b : Bool) (i : ℕ) (s : Store) (rs : List Record) (xs : List (List Component)) → turned b rs ≡ stamped s.last xs
    → stored (nth (filing b) i) xs s ≡ with_files (set s.files i (filed b rs (file_of s (nth P i)))) (s.last + length xs) s
stored-to b i s rs xs q =
    stored_is (nth (filing b) i) xs s
    ∙ rw (turns-so b, ← q, turned-twice b rs)

module _ {t : List (List ℕ)} {n : List ℕ} {s : State} (h : Lies t n s) {i : ℕ} (b : Bool) {new : List ℕ} {k c d : ℕ} (pre : RecordsWritable s i b new k c d) where
  abbrev rs : List Record
  rs = records_in new

  abbrev old : File
  old = file_of s.store (nth P i)

  abbrev z : Store
  z = s.store

  parts_more : components_held z + c + part_total (records old) ≡ components_held z + part_total (records (filed b rs old))
  parts_more = omega (arith, filed-total (λ r. total (λ x. 1) r.parts) b rs old, pre.parts_is)

  chars-more : chars_held z + d + char_total (records old) ≡ chars_held z + char_total (records (filed b rs old))
  chars-more = omega (arith, filed-total (λ r. total (λ x. length (chars x)) r.parts) b rs old, pre.chars_is)

  records-more : records_held z + k + length (records old) ≡ records_held z + length (records (filed b rs old))
  records-more =
      omega (arith, filed-total (λ r. 1) b rs old, total-ones (records old), total-ones (records (filed b rs old)), total-ones rs, pre.count)

  ok : FileOk (filed b rs old)
  ok =
      let f = h.fine in
      filed-ok b rs old pre.whole.all_ok
      (record { before_ok = (before-encoded s f i pre.index).all_ok; after_ok = (after-encoded s f i pre.index).all_ok })

  strings-more : inserted b i new t
      ≡ set (set (strings s) (before_string i) (records_bytes (filed b rs old).before)) (after_string i) (records_bytes (filed b rs old).after)
  strings-more =
      let f = h.fine in
      ap (λ (l : List ℕ). inserted b i l t) pre.whole.is
      ∙ rw h.strings_is
      (inserted-is (strings s) i old (before-encoded s f i pre.index).is (after-encoded s f i pre.index).is rs b)

  pub records-insertable : Insertable t i (length new)
  records-insertable =
      let f = h.fine in
      let m = z.last + k in
      let c' = components_held z + c in
      let d' = chars_held z + d in
      let r' = records_held z + k in
      let fine = fine-then s f i pre.index (filed b rs old) m c' d' r' parts_more chars-more records-more ok pre.addresses_room pre.components_room pre.chars_room pre.records_room in
      let q = strings-then s f i pre.index (filed b rs old) m c' d' r' parts_more chars-more records-more in
      record {
        index = pre.index;
        total = omega (arith, fine-room (on_store (with_files (set z.files i (filed b rs old)) m) s) fine, ap used q, ap used strings-more, used-inserted b i new t pre.index (rw h.strings_is (length-strings s h.fine)));
      }

  module _ {n₁ : List ℕ} (q : n₁ ≡ totalled (get_or n layout.components_scalar 0 + c) (get_or n layout.characters_scalar 0 + d) n) where
    pub records-room : get_or n₁ layout.records_scalar 0 + k ≤ limit.records
    unfolding totalled
    records-room = rw (q, h.numbers) pre.records_room

    pub addresses-room : get_or n₁ layout.last_scalar 0 + k ≤ limit.addresses
    unfolding totalled
    addresses-room = rw (q, h.numbers) pre.addresses_room

  pub records-stored : {t' : List (List ℕ)} {n₁ n₂ n' : List ℕ} {r l : ℕ} → t' ≡ inserted b i new t
      → n₁ ≡ totalled (get_or n layout.components_scalar 0 + c) (get_or n layout.characters_scalar 0 + d) n → r ≡ get_or n₁ layout.records_scalar 0 → l ≡ get_or n₁ layout.last_scalar 0
      → n₂ ≡ set n₁ layout.records_scalar (r + k) → n' ≡ set n₂ layout.last_scalar (l + k) → Lies t' n' (on_store (stored (nth (filing b) i) (bodies b new)) s)
  unfolding totalled on_store
  records-stored {n₁ = n₁} {n' = n'} {l = l} g q₁ e f w₁ w₂ =
      let q₂ : n' ≡ set (set n₁ 7 (get_or n₁ 7 0 + k)) 4 (get_or n₁ 4 0 + k) =
      w₂ ∙ ap (λ (m : List ℕ). set m 4 (l + k)) w₁ ∙ ap (λ (x : ℕ). set (set n₁ 7 (x + k)) 4 (l + k)) e
      ∙ ap (λ (x : ℕ). set (set n₁ 7 (get_or n₁ 7 0 + k)) 4 (x + k)) f in
      let y : length (bodies b new) ≡ k = length-map (turned b rs) (λ r. r.parts) ∙ turned-length b rs ∙ sym pre.count in
      rw (stored-to b i z rs (bodies b new) pre.stamps, y)
      (holds-file s h.fine i pre.index (filed b rs old) (z.last + k) (components_held z + c) (chars_held z + d) (records_held z + k)
      parts_more chars-more records-more ok pre.addresses_room pre.components_room pre.chars_room pre.records_room
      (rw strings-more at g)
      (q₂ ∙ ap (λ (m : List ℕ). set (set m 7 (get_or m 7 0 + k)) 4 (get_or m 4 0 + k))
      (q₁ ∙ ap (λ (m : List ℕ). totalled (get_or m 5 0 + c) (get_or m 6 0 + d) m) h.numbers)))
