-- What load answers and leaves, and what is printed then.
use mathlib.Core.Path.{◌≡◌, refl, ap, sym, ◌∙◌}
use mathlib.Core.Bool.{true, cond}
use mathlib.Core.List.{List, [], ◌∷◌, ◌++◌}
use Prim.Native.Nat.{ℕ, ◌/◌, ◌%◌, ◌≤◌}
use native.Mathlib.Omega.{arith}
use lib.Dec.{T}
use lib.ListN.{length, take, drop}
use lib.Ieee.Bits.{is_true}
use Rattle.language.specs.Limits as limit
use Rattle.language.specs.Values.{Inputs}
use Rattle.machine.specs.WellFormed.{good_program}
use Rattle.layout.specs.Table.{table_cells, program_of, good_table}
use Rattle.layout.proofs.TableLaws.{program_of-cells, table_good}
use Rattle.macros.specs.Load.{load_in, load_of}
use Rattle.syntax.specs.Load.{Loaded}
use Rattle.syntax.specs.Load.Loaded.{refused, accepted}
use Rattle.acceptance.proofs.AcceptanceLaws.{accepted-good}
use Rattle.calls.specs.Calls.{load_number, load_line, load_answer, table_after}
use Rattle.calls.proofs.LoadLaws.{load-accepts, line-within, number-back, line-back}
use Rattle.console.specs.Console.{text_of, input_of, refusal_line, program_bytes, loaded_bytes, printed}
use Rattle.console.specs.Parts.{Put, TextEnd, RefusalRoom}
use Rattle.console.proofs.Putting.{put_same}
use Rattle.batch.specs.Printed.{table_bytes, printed_most}

-- ---- what is printed

-- a refusal
refused-bytes : (ins : Inputs) (x : Loaded) → (load_number x ≡ 80 → ⊥) → refusal_line (load_number x) (load_line x) ≡ loaded_bytes ins x
unfolding loaded_bytes
refused-bytes ins (refused n l) h = refl
refused-bytes ins (accepted p) h = absurd (h refl)

-- an accepted text: its table
accepted-bytes : (s : List ℕ) (ins : Inputs) → load_number (load_of s) ≡ 80 → (c : List ℕ) → table_bytes (table_after (load_of s) c) ins ≡ loaded_bytes ins (load_of s)
unfolding loaded_bytes table_bytes table_after
accepted-bytes s ins h c =
    let p = ((load-accepts limit.table s).0 h).0 in
    let e : load_of s ≡ accepted p = ((load-accepts limit.table s).0 h).1 in
    let gp : T (good_program p) = accepted-good limit.table s p e in
    let d : List ℕ = drop limit.table c in
    let t : good_table (table_cells p ++ d) ≡ true = is_true (good_table (table_cells p ++ d)) (table_good p gp d) in
    let q : program_of (table_cells p ++ d) ≡ p = program_of-cells p gp d in
    rw e (ap (λ t. cond t (program_bytes (program_of (table_cells p ++ d)) ins) (refusal_line 62 0)) t ∙ ap (λ p. program_bytes p ins) q)

module _ (s : List ℕ) {at : ℕ} (e : TextEnd s at) (text c : List ℕ) (t : text ≡ take at s) (cells : length c ≡ limit.table)
    {r : ℕ} (h : r ≡ load_answer (load_in (length c) text)) {n : ℕ} (k : n ≡ r / 4294967296) where
  loaded-is : load_in (length c) text ≡ load_of (text_of s)
  loaded-is = ap (λ (m : ℕ). load_in m text) cells ∙ ap load_of (t ∙ e.text)

  abbrev x : Loaded
  x = load_of (text_of s)

  told : r ≡ load_answer x
  told = h ∙ ap load_answer loaded-is

  number_is : n ≡ load_number x
  number_is = k ∙ ap (λ (i : ℕ). i / 4294967296) told ∙ number-back limit.table (text_of s)

  line_is : r % 4294967296 ≡ load_line x
  line_is = ap (λ (i : ℕ). i % 4294967296) told ∙ line-back limit.table (text_of s)

  abbrev ins : Inputs
  ins = input_of s ∷ [] ∷ []

  pub refusal-room : {long v : ℕ} → printed_most ≤ long → v ≡ r % 4294967296 → RefusalRoom long v
  refusal-room room f = record { room = omega arith; most = rw (f, line_is) (omega (arith, line-within limit.table (text_of s))) }

  pub refusal-put : {v q : ℕ} {d d' : List ℕ} → v ≡ r % 4294967296 → (n ≡ 80 → ⊥) → Put d 0 (refusal_line n v) d' q → Put d 0 (printed s) d' q
  unfolding printed
  refusal-put {v} f no-80 p =
      let b : v ≡ load_line x = f ∙ line_is in
      put_same (ap (λ (i : ℕ). refusal_line i v) number_is ∙ ap (λ (i : ℕ). refusal_line (load_number x) i) b
      ∙ refused-bytes ins x (λ z. no-80 (number_is ∙ z))) p

  pub table-put : {i c' : List ℕ} {q : ℕ} {d d' : List ℕ} → i ≡ drop at s → c' ≡ table_after (load_in (length c) text) c → n ≡ 80
      → Put d 0 (table_bytes c' (i ∷ [] ∷ [])) d' q → Put d 0 (printed s) d' q
  unfolding printed
  table-put {i} {c'} g w z p =
      let a : i ≡ input_of s = g ∙ e.input in
      let b : c' ≡ table_after x c = w ∙ ap (λ y. table_after y c) loaded-is in
      put_same (ap (λ (l : List ℕ). table_bytes l (i ∷ [] ∷ [])) b ∙ ap (λ (l : List ℕ). table_bytes (table_after x c) (l ∷ [] ∷ [])) a
      ∙ accepted-bytes (text_of s) ins (sym number_is ∙ z) c) p
