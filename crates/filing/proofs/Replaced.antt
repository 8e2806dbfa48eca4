-- The state at work after a file is replaced.
use mathlib.Core.Path.{◌≡◌, sym, ◌∙◌}
use mathlib.Core.List.{List}
use Prim.Native.Nat.{ℕ, ◌+◌, ◌≤◌, ◌<◌}
use native.Mathlib.Omega.{arith}
use lib.ListN.{length, set, length-set}
use Rattle.language.specs.Limits as limit
use Rattle.language.specs.Letters.Letter.{P}
use Rattle.language.specs.Values.{File, State, chars}
use Rattle.machine.specs.Arguments.{file_of, records}
use Rattle.machine.specs.Changes.{with_files, put_file, held, recorded}
use Rattle.machine.proofs.SumLaws.{held-put_file, recorded-put_file}
use Rattle.layout.specs.Bounds.{FileOk, Fine}
use Rattle.layout.specs.Components.{records_bytes}
use Rattle.layout.specs.Memory.{components_held, chars_held, records_held, scalars, strings}
use Rattle.state.specs.Blocks.{totalled}
use Rattle.layout.specs.Places.{before_string, after_string}
use Rattle.state.specs.Working.{Lies, on_store, nth, part_total, char_total}
use Rattle.state.proofs.Fineness.{fine-files}
use Rattle.state.proofs.Totals.{scalars-files}
use Rattle.state.proofs.Sequences.{total-ones, each_set}
use Rattle.state.proofs.Strings.{strings-file}

-- file i becomes g, the last address m, and the totals c, d and r
module _ (s : State) (f : Fine s) (i : ℕ) (l : i < limit.files) (g : File) (m c d r : ℕ)
    (c_is : c + part_total (records (file_of s.store (nth P i))) ≡ components_held s.store + part_total (records g))
    (d_is : d + char_total (records (file_of s.store (nth P i))) ≡ chars_held s.store + char_total (records g))
    (r-is : r + length (records (file_of s.store (nth P i))) ≡ records_held s.store + length (records g)) where
  abbrev fs : List File
  fs = set s.store.files i g

  within : i < length s.store.files
  within = rw f.files_is l

  components_then : components_held (with_files fs m s.store) ≡ c
  unfolding held with_files put_file
  components_then = let h = held-put_file (nth P i) s.store (λ x. 1) g.before g.after within in omega (arith, h, c_is)

  chars_then : chars_held (with_files fs m s.store) ≡ d
  unfolding held with_files put_file
  chars_then = let h = held-put_file (nth P i) s.store (λ x. length (chars x)) g.before g.after within in omega (arith, h, d_is)

  records_then : records_held (with_files fs m s.store) ≡ r
  unfolding recorded with_files put_file
  records_then =
      let h = recorded-put_file (nth P i) s.store (λ x. 1) g.before g.after within in
      omega (arith, h, r-is, total-ones (records g), total-ones (records (file_of s.store (nth P i))))

  pub strings-then : strings (on_store (with_files fs m) s)
      ≡ set (set (strings s) (before_string i) (records_bytes g.before)) (after_string i) (records_bytes g.after)
  strings-then = strings-file s f.exprs_is f.files_is i g m l

  pub fine-then : FileOk g → m ≤ limit.addresses → c ≤ limit.components → d ≤ limit.characters → r ≤ limit.records → Fine (on_store (with_files fs m) s)
  fine-then k hm hc hd hr =
      fine-files s f fs m (length-set s.store.files i g ∙ f.files_is) (each_set FileOk s.store.files i g f.files_ok k) hm
      (rw components_then hc) (rw chars_then hd) (rw records_then hr)

  pub holds-file : {t' : List (List ℕ)} {n' : List ℕ} → FileOk g → m ≤ limit.addresses → c ≤ limit.components → d ≤ limit.characters → r ≤ limit.records
      → t' ≡ set (set (strings s) (before_string i) (records_bytes g.before)) (after_string i) (records_bytes g.after)
      → n' ≡ set (set (totalled c d (scalars s)) 7 r) 4 m → Lies t' n' (on_store (with_files fs m) s)
  holds-file k hm hc hd hr b q =
      record {
        strings_is = rw strings-then b;
        numbers = q ∙ sym (scalars-files s fs m components_then chars_then records_then);
        fine = fine-then k hm hc hd hr;
      }
