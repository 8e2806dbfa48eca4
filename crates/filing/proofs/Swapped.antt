-- The state at work after two files are exchanged.
use mathlib.Core.Path.{◌≡◌, sym, ◌∙◌}
use mathlib.Core.List.{List, []}
use Prim.Native.Nat.{ℕ, ◌<◌}
use native.Mathlib.Omega.{arith}
use lib.ListN.{length, get_or, set, length-set}
use lib.Seq.{get_or-set_other, set_comm}
use Rattle.lists.specs.Lists.{total}
use Rattle.language.specs.Limits as limit
use Rattle.language.specs.Values.{Component, Record, File, State, chars, empty_file}
use Rattle.machine.specs.Arguments.{records}
use Rattle.machine.specs.Changes.{with_files, put_file, held, recorded}
use Rattle.layout.specs.Bounds.{FileOk, Fine}
use Rattle.layout.specs.Memory.{scalars, strings}
use Rattle.layout.proofs.MemoryLaws.{string-before, string-after}
use Rattle.store.specs.Below.Pool.{string}
use Rattle.store.specs.Store.{exchanged}
use Rattle.state.specs.Blocks.{totalled}
use Rattle.layout.specs.Places.{before_string, after_string}
use Rattle.state.specs.Working.{Lies, on_store}
use Rattle.state.proofs.Sequences.{total-exchanged, each-exchanged}
use Rattle.state.proofs.Fineness.{fine-files}
use Rattle.state.proofs.Totals.{scalars-files}
use Rattle.state.proofs.Strings.{strings-file}
use Rattle.filing.specs.Files.{files_exchanged}
use Rattle.filing.proofs.Pointers.{apart}

-- the strings before the pointers exchanged, and then those after them
module _ (s : List (List ℕ)) (i j : ℕ) where
  abbrev T : List (List ℕ)
  T = exchanged (before_string i) (before_string j) s

  still : (k : ℕ) → string (after_string k) T ≡ string (after_string k) s
  unfolding exchanged
  still k =
      get_or-set_other (set s (before_string i) (string (before_string j) s)) (before_string j) (after_string k) (string (before_string i) s) [] (apart k j)
      ∙ get_or-set_other s (before_string i) (after_string k) (string (before_string j) s) [] (apart k i)

  both-exchanged : exchanged (after_string i) (after_string j) T
      ≡ set (set (set (set s (before_string i) (string (before_string j) s)) (after_string i) (string (after_string j) s)) (before_string j) (string (before_string i) s)) (after_string j) (string (after_string i) s)
  unfolding exchanged
  both-exchanged =
      let u : List (List ℕ) = set s (before_string i) (string (before_string j) s) in
      rw (still i, still j, set_comm u (after_string i) (before_string j) (string (after_string j) s) (string (before_string i) s) (apart i j))

module _ (s : State) (f : Fine s) (i j : ℕ) (a : i < limit.files) (b : j < limit.files) where
  abbrev fs : List File
  fs = s.store.files

  abbrev first : List File
  first = set fs i (get_or fs j empty_file)

  abbrev both : List File
  both = set first j (get_or fs i empty_file)

  total-both : (g : Record → ℕ) → total (λ k. total g (records k)) both ≡ total (λ k. total g (records k)) fs
  total-both g = total-exchanged empty_file fs i j (λ k. total g (records k)) (rw f.files_is a) (rw f.files_is b)

  held_both : (g : Component → ℕ) → held g (with_files both s.store.last s.store) ≡ held g s.store
  unfolding held with_files
  held_both g = omega (arith, total-both (λ r. total g r.parts))

  recorded-both : (g : Record → ℕ) → recorded g (with_files both s.store.last s.store) ≡ recorded g s.store
  unfolding recorded with_files
  recorded-both g = total-both g

  fine-both : Fine (on_store (with_files both s.store.last) s)
  fine-both =
      fine-files s f both s.store.last (length-set first j (get_or fs i empty_file) ∙ length-set fs i (get_or fs j empty_file) ∙ f.files_is)
      (each-exchanged empty_file fs i j FileOk (record { before_ok = tt; after_ok = tt }) f.files_ok) f.last_most
      (rw (held_both (λ x. 1)) f.components_most) (rw (held_both (λ x. length (chars x))) f.chars_most) (rw (recorded-both (λ r. 1)) f.records_most)

  strings-both : strings (on_store (with_files both s.store.last) s)
      ≡ exchanged (after_string i) (after_string j) (exchanged (before_string i) (before_string j) (strings s))
  unfolding on_store with_files
  strings-both =
      strings-file (on_store (with_files first s.store.last) s) f.exprs_is (length-set fs i (get_or fs j empty_file) ∙ f.files_is) j (get_or fs i empty_file) s.store.last b
      ∙ rw (strings-file s f.exprs_is f.files_is i (get_or fs j empty_file) s.store.last a, both-exchanged (strings s) i j, string-before s f i a, string-before s f j b, string-after s f i a, string-after s f j b)

  scalars-both : scalars (on_store (with_files both s.store.last) s) ≡ scalars s
  unfolding totalled
  scalars-both = scalars-files s both s.store.last (held_both (λ x. 1)) (held_both (λ x. length (chars x))) (recorded-both (λ r. 1))

module _ {t : List (List ℕ)} {n : List ℕ} {s : State} (h : Lies t n s) {i j : ℕ} (a : i < limit.files) (b : j < limit.files) where
  pub files-swapped : {t₁ t' : List (List ℕ)} → t₁ ≡ exchanged (before_string i) (before_string j) t → t' ≡ exchanged (after_string i) (after_string j) t₁
      → Lies t' n (on_store (files_exchanged i j) s)
  unfolding on_store files_exchanged put_file with_files
  files-swapped g k =
      record {
        strings_is = rw (strings-both s h.fine i j a b) (rw (g, h.strings_is) at k);
        numbers = h.numbers ∙ sym (scalars-both s h.fine i j a b);
        fine = fine-both s h.fine i j a b;
      }
