-- The bytes of a file's records, and the working memory after the first records behind the pointer are removed.
use mathlib.Core.Path.{◌≡◌, refl, ap, ◌∙◌}
use mathlib.Core.Bool.{Bool, true, false, cond}
use mathlib.Core.List.{List, [], ◌++◌}
use Prim.Native.Nat.{ℕ, ◌+◌, ◌-◌, ◌≤◌, ◌<◌}
use native.Mathlib.Omega.{arith}
use lib.ListN.{length, get_or, take, drop, set}
use lib.Seq.{length-take-le, set-get_or}
use Rattle.lists.specs.Lists.{total}
use Rattle.lists.specs.ListLaws.{total-at}
use Rattle.language.specs.Letters.Letter.{P}
use Rattle.language.specs.Limits as limit
use Rattle.language.specs.Values.{Component, Record, File, Store, chars, empty_file, State}
use Rattle.machine.specs.Arguments.{file_of, records}
use Rattle.machine.specs.Changes.{put_file, past_file, past_by, past, held, recorded}
use Rattle.layout.specs.Bounds.{EncodedRecords, RecordOk}
use Rattle.layout.proofs.CellLaws.{each-drop}
use Rattle.layout.proofs.ComponentLaws.{records_bytes-append, records-of, whole-records}
use Rattle.layout.specs.Components.{records_bytes}
use Rattle.layout.specs.Memory.{components_held, chars_held, records_held, strings}
use Rattle.layout.proofs.MemoryLaws.{before-encoded, after-encoded}
use Rattle.layout.specs.Places as layout
use Rattle.store.specs.Below.Pool.{string}
use Rattle.store.specs.Store.{dropped_front}
use Rattle.strings.specs.Strings.{Droppable}
use Rattle.state.specs.Blocks.{totalled, Lowerable}
use Rattle.layout.specs.Places.{before_string, after_string}
use Rattle.state.specs.Working.{Lies, on_store, nth, filing}
use Rattle.state.proofs.Sequences.{total-ones, rest-bytes, bytes-within}
use Rattle.state.proofs.Freed.{removed-total, held-records-off, recorded-records-off, held-records-on, recorded-records-on}
use Rattle.state.proofs.Standing.{number_is, string-is}
use Rattle.filing.specs.Files.{RecordsLent, FirstRecords, RecordsDroppable}
use Rattle.filing.proofs.Replaced.{holds-file}

-- ---- reading

module _ {t : List (List ℕ)} {n : List ℕ} {s : State} (h : Lies t n s) {r : List ℕ} where
  lent : (j : ℕ) (rs : List Record) → EncodedRecords (get_or (strings s) j []) rs → r ≡ string j t → length r ≤ 32768 → RecordsLent rs r
  lent j rs x w m =
      let c : EncodedRecords r rs = record { is = w ∙ string-is h j ∙ x.is; all_ok = x.all_ok } in
      record { encoded = c; whole = whole-records c; is = records-of c; most = m }

  pub before_lent : {i : ℕ} → i < limit.files → r ≡ string (before_string i) t → length r ≤ 32768 → RecordsLent (file_of s.store (nth P i)).before r
  before_lent {i} l w m = lent (before_string i) _ (before-encoded s h.fine i l) w m

  pub after-lent : {i : ℕ} → i < limit.files → r ≡ string (after_string i) t → length r ≤ 32768 → RecordsLent (file_of s.store (nth P i)).after r
  after-lent {i} l w m = lent (after_string i) _ (after-encoded s h.fine i l) w m

-- what a file counts is part of the totals
module _ (s : Store) (i : ℕ) where
  held-file : (g : Component → ℕ) → total (λ r. total g r.parts) (records (file_of s (nth P i))) ≤ held g s
  unfolding held
  held-file g = omega (arith, total-at (λ f. total (λ r. total g r.parts) (records f)) empty_file refl s.files i)

  recorded-file : (g : Record → ℕ) → total g (records (file_of s (nth P i))) ≤ recorded g s
  unfolding recorded
  recorded-file g = total-at (λ f. total g (records f)) empty_file refl s.files i

-- ---- removing

module _ {t : List (List ℕ)} {n : List ℕ} {s : State} (h : Lies t n s) {i k b c d : ℕ} (pre : RecordsDroppable s i k b c d) where
  abbrev old : File
  old = file_of s.store (nth P i)

  after_is : string (after_string i) (strings s) ≡ records_bytes old.after
  after_is = (after-encoded s h.fine i pre.index).is

  pub records-droppable : Droppable t (after_string i) b
  records-droppable =
      record {
        index = omega (arith, pre.index);
        within = rw (string-is h (after_string i), after_is) (bytes-within records_bytes records_bytes-append old.after k pre.first.bytes_is);
      }

  pub records-lowerable : Lowerable n c d
  records-lowerable =
      let s = s.store in
      record {
        components =
            omega (arith, number_is h 5, held-file s i (λ x. 1), removed-total (λ r. total (λ x. 1) r.parts) old k, pre.first.parts_is);
        characters =
            omega (arith, number_is h 6, held-file s i (λ x. length (chars x)), removed-total (λ r. total (λ x. length (chars x)) r.parts) old k, pre.first.chars_is);
      }

  count_is : total (λ (r : Record). 1) (take k old.after) ≡ k
  count_is = total-ones (take k old.after) ∙ length-take-le k old.after pre.first.most

  pub records-fewer : {n₁ : List ℕ} → n₁ ≡ totalled (get_or n layout.components_scalar 0 - c) (get_or n layout.characters_scalar 0 - d) n
      → k ≤ get_or n₁ layout.records_scalar 0
  unfolding totalled
  records-fewer q =
      rw (q, h.numbers) (omega (arith, recorded-file s.store i (λ r. 1), removed-total (λ r. 1) old k, count_is))

  strings-less : dropped_front (after_string i) b t
      ≡ set (set (strings s) (before_string i) (records_bytes old.before)) (after_string i) (records_bytes (drop k old.after))
  unfolding dropped_front
  strings-less =
      rw (h.strings_is, ← (before-encoded s h.fine i pre.index).is, set-get_or (strings s) (before_string i) [], after_is, rest-bytes records_bytes records_bytes-append old.after k pre.first.bytes_is)

  pub records-dropped : {t' : List (List ℕ)} {n₁ n' : List ℕ} {r : ℕ} → t' ≡ dropped_front (after_string i) b t
      → n₁ ≡ totalled (get_or n layout.components_scalar 0 - c) (get_or n layout.characters_scalar 0 - d) n → r ≡ get_or n₁ layout.records_scalar 0 → n' ≡ set n₁ layout.records_scalar (r - k)
      → Lies t' n' (on_store (past (nth (filing true) i) k) s)
  unfolding totalled past past_by past_file put_file on_store
  records-dropped {n₁ = n₁} g q₁ e q₂ =
      let x = (before-encoded s h.fine i pre.index).all_ok in
      let y = (after-encoded s h.fine i pre.index).all_ok in
      let l = records-lowerable in
      let u = held-file s.store i (λ x. 1) in
      let v = held-file s.store i (λ x. length (chars x)) in
      let w = recorded-file s.store i (λ r. 1) in
      holds-file s h.fine i pre.index (record { before = old.before; after = drop k old.after }) s.store.last
      (components_held s.store - c) (chars_held s.store - d) (records_held s.store - k)
      (omega (arith, u, removed-total (λ r. total (λ x. 1) r.parts) old k, pre.first.parts_is))
      (omega (arith, v, removed-total (λ r. total (λ x. length (chars x)) r.parts) old k, pre.first.chars_is))
      (omega (arith, w, removed-total (λ r. 1) old k, count_is, total-ones (old.before ++ drop k old.after), total-ones (records old)))
      (record { before_ok = x; after_ok = each-drop RecordOk k old.after y }) h.fine.last_most
      (omega (arith, h.fine.components_most)) (omega (arith, h.fine.chars_most)) (omega (arith, h.fine.records_most))
      (rw strings-less at g)
      (q₂ ∙ ap (λ (x : ℕ). set n₁ 7 (x - k)) e ∙ ap (λ (m : List ℕ). set m 7 (get_or m 7 0 - k)) (q₁ ∙ ap (λ (m : List ℕ). totalled (get_or m 5 0 - c) (get_or m 6 0 - d) m) h.numbers))

-- ---- the totals after the first records are removed or passed, by the counts that the functions are told

module _ (s : Store) (i k : ℕ) (l : i < length s.files) {y c d : ℕ} (h : FirstRecords (file_of s (nth P i)).after k y c d) where
  pub components-past : (b : Bool) → components_held (past (nth (filing b) i) k s) + cond b c 0 ≡ components_held s
  components-past true = omega (arith, held-records-off s i k l (λ x. 1), h.parts_is)
  components-past false = omega (arith, held-records-on s i k l (λ x. 1))

  pub chars-past : (b : Bool) → chars_held (past (nth (filing b) i) k s) + cond b d 0 ≡ chars_held s
  chars-past true = omega (arith, held-records-off s i k l (λ x. length (chars x)), h.chars_is)
  chars-past false = omega (arith, held-records-on s i k l (λ x. length (chars x)))

  pub records-past : (b : Bool) → records_held (past (nth (filing b) i) k s) + cond b k 0 ≡ records_held s
  records-past true =
      omega (arith, recorded-records-off s i k l (λ r. 1), total-ones (take k (file_of s (nth P i)).after), length-take-le k (file_of s (nth P i)).after h.most)
  records-past false = omega (arith, recorded-records-on s i k l (λ r. 1))
