-- Laws of the state at rest: what is written is read back, what is well formed is written in one way only, and where each part stands.
use Rattle.std.specs.Prelude.{◌≡◌, refl, Bool, true, false, cond, ◌&&◌, T, get_or, drop, replicate}
use Rattle.std.proofs.Common.{sym, ap, ◌∙◌, arith, le→leb, length-drop, take-append-drop, drop-drop, get_or-drop}
use mathlib.Core.List.{List, [], ◌∷◌, ◌++◌, map, append_assoc}
use Prim.Native.Nat.{ℕ, zero, suc, ◌+◌, ◌*◌, ◌≤◌, ◌<◌}
use Rattle.std.proofs.Math.Dec.{leb→le}
use Rattle.std.proofs.Math.ListN.{length, take, length-append, get_or-append, get_or-map}
use Rattle.std.proofs.lemmas.List.{length-map}
use Rattle.std.proofs.Math.Seq.{take_at, drop_at}
use Rattle.lists.specs.BoolLaws.{sign-back}
use Rattle.machine.specs.Below.Limits as limit
use Rattle.machine.specs.Below.ListLaws.{T-left, T-right, T-both, same_bytes-eq, same_bytes-refl}
use Rattle.machine.specs.Below.Lists.{each, bytes_equal}
use Rattle.machine.specs.Below.Program.{Program}
use Rattle.machine.specs.Below.LanguageValues.{Component, File, State, Inputs, empty_file}
use Rattle.machine.specs.Changes.{held, recorded}
use Rattle.machine.specs.WellFormed.{good_program, good_inputs, good_state, started}
use Rattle.layout.specs.Bounds.{Each, Below, Ok, FileOk, Fine, Encoded, EncodedRecords, AtRest}
use Rattle.layout.proofs.CellLaws.{twice, twice-one, each_at, below-append, each_below, two_back, three_back, three-below, length-each}
use Rattle.layout.specs.Cells.{two, three}
use Rattle.layout.proofs.ComponentLaws.{components-back, records-back}
use Rattle.layout.specs.Components.{components_bytes, records_bytes, components_in}
use Rattle.layout.proofs.FineLaws.{good-fine, good-strings-below, fine-room}
use Rattle.layout.specs.Memory.{scalars, file_strings, strings, state_cells, threes_in, files_in, twos_in, state_by, state_in, state_of, long_enough, good_memory, written}
use Rattle.layout.proofs.StringLaws.{strings-short, strings-back, length-string_cells, string_cells-below}
use Rattle.layout.specs.Strings.{lengths, used, string_cells, strings_in}
use Rattle.layout.specs.Places as layout

-- ---- numbers and strings, read back

pub threes-back : (ns t : List ℕ) → threes_in (length ns) (each three ns ++ t) ≡ ns
unfolding threes_in
threes-back [] t = refl
threes-back (n ∷ ns) t = rw (three_back n, threes-back ns t)

pub twos_back : (ns : List ℕ) → twos_in (each two ns) ≡ ns
unfolding twos_in
twos_back [] = refl
twos_back (n ∷ ns) = rw (two_back n, twos_back ns)

exprs-back : (es : List (List Component)) → Each (Each Ok) es → map components_in (map components_bytes es) ≡ es
exprs-back [] h = refl
exprs-back (e ∷ es) h = rw (components-back e h.0, exprs-back es h.1)

files-back : (fs : List File) (t : List (List ℕ)) → Each FileOk fs → files_in (length fs) (file_strings fs ++ t) ≡ fs
unfolding file_strings files_in
files-back [] t h = refl
files-back (f ∷ fs) t h =
    let x = records-back f.before h.0.before_ok in
    let y = records-back f.after h.0.after_ok in
    let z = files-back fs t h.1 in
    λ i. record { before = x i; after = y i } ∷ z i

pub length-file_strings : (fs : List File) → length (file_strings fs) ≡ 2 * length fs
unfolding file_strings
length-file_strings [] = refl
length-file_strings (f ∷ fs) = rw (length-file_strings fs) (omega arith)

file-before : (fs : List File) (k : ℕ) → get_or (file_strings fs) (2 * k) [] ≡ records_bytes (get_or fs k empty_file).before
unfolding file_strings records_bytes
file-before [] k = refl
file-before (f ∷ fs) zero = refl
file-before (f ∷ fs) (suc k) = rw (twice k) (file-before fs k)

file-after : (fs : List File) (k : ℕ) → get_or (file_strings fs) (2 * k + 1) [] ≡ records_bytes (get_or fs k empty_file).after
unfolding file_strings records_bytes
file-after [] k = refl
file-after (f ∷ fs) zero = refl
file-after (f ∷ fs) (suc k) = rw (twice-one k) (file-after fs k)

two-places : (ns : List ℕ) → length ns ≡ 2 → (get_or ns 0 0 ∷ get_or ns 1 0 ∷ []) ≡ ns
two-places [] h = absurd (omega (arith, h))
two-places (a ∷ []) h = absurd (omega (arith, h))
two-places (a ∷ b ∷ []) h = refl
two-places (a ∷ b ∷ c ∷ ns) h = absurd (omega (arith, h))

sign_below : (b : Bool) → cond b 1 0 < 16777216
sign_below true = omega arith
sign_below false = omega arith

threes-below : (ns : List ℕ) → Below 16777216 ns → Below 256 (each three ns)
threes-below ns h = each_below 256 three (λ n. n < 16777216) three-below ns h

-- ---- the strings of a state

module _ (s : State) (f : Fine s) where
  abbrev E : List (List ℕ)
  E = map components_bytes s.store.exprs

  abbrev F : List (List ℕ)
  F = file_strings s.store.files

  abbrev R : List (List ℕ)
  R = each two s.stack ∷ s.store.outputs

  pub length-E : length E ≡ 32
  length-E = length-map s.store.exprs components_bytes ∙ f.exprs_is

  pub length-F : length F ≡ 64
  length-F = rw (length-file_strings, f.files_is)

  pub length-strings : length (strings s) ≡ layout.strings_count
  unfolding strings
  length-strings = simp length-append (omega (arith, length-E, length-F, f.outputs_is))

  pub take-E : take 32 (strings s) ≡ E
  unfolding strings
  take-E = take_at E (F ++ R) 32 length-E

  pub drop-E : drop 32 (strings s) ≡ F ++ R
  unfolding strings
  drop-E = drop_at E (F ++ R) 32 length-E

  pub drop-F : drop layout.stack_string (strings s) ≡ R
  unfolding strings
  drop-F = rw (← append_assoc E F R) (drop_at (E ++ F) R layout.stack_string (simp length-append (omega (arith, length-E, length-F))))

  read-E : map components_in (take 32 (strings s)) ≡ s.store.exprs
  read-E = rw take-E (exprs-back s.store.exprs f.exprs_ok)

  read-F : files_in 32 (drop 32 (strings s)) ≡ s.store.files
  read-F = rw drop-E (ap (λ n. files_in n (F ++ R)) (sym f.files_is) ∙ files-back s.store.files R f.files_ok)

  read-O : drop layout.first_output (strings s) ≡ s.store.outputs
  read-O = sym (drop-drop 1 layout.stack_string (strings s)) ∙ rw drop-F refl

  pub string-stack : get_or (strings s) layout.stack_string [] ≡ each two s.stack
  string-stack = sym (get_or-drop layout.stack_string (strings s) 0 []) ∙ rw drop-F refl

  read-S : twos_in (get_or (strings s) layout.stack_string []) ≡ s.stack
  read-S = rw string-stack (twos_back s.stack)

  -- the strings and the scalars say all of a state
  pub state_by-back : state_by (strings s) (scalars s) ≡ s
  unfolding state_by
  state_by-back =
      let x0 = sign-back s.store.plus in
      let x1 = two-places s.store.places f.places_is in
      λ i. record { store = record { exprs = read-E i; files = read-F i; plus = x0 i; outputs = read-O i; places = x1 i; last = s.store.last }; next = s.next; stack = read-S i }

  -- string k: expression k, what stands before and after the pointer of file k, output k
  pub string-expr : (k : ℕ) → k < 32 → get_or (strings s) k [] ≡ components_bytes (get_or s.store.exprs k [])
  unfolding strings components_bytes
  string-expr k h = get_or-append E (F ++ R) [] k (rw length-E h) ∙ get_or-map components_bytes s.store.exprs k []

  file-at : (j : ℕ) → j < layout.file_strings_count → get_or (strings s) (layout.first_file + j) [] ≡ get_or F j []
  file-at j h = sym (get_or-drop 32 (strings s) j []) ∙ rw drop-E (get_or-append F R [] j (rw length-F h))

  pub string-before : (k : ℕ) → k < 32 → get_or (strings s) (layout.before_string k) [] ≡ records_bytes (get_or s.store.files k empty_file).before
  string-before k h = file-at (2 * k) (omega arith) ∙ file-before s.store.files k

  pub string-after : (k : ℕ) → k < 32 → get_or (strings s) (layout.after_string k) [] ≡ records_bytes (get_or s.store.files k empty_file).after
  string-after k h = file-at (2 * k + 1) (omega arith) ∙ file-after s.store.files k

  pub string-output : (k : ℕ) → get_or (strings s) (layout.first_output + k) [] ≡ get_or s.store.outputs k []
  string-output k = sym (get_or-drop layout.first_output (strings s) k []) ∙ rw read-O refl

  pub expr-encoded : (k : ℕ) → k < 32 → Encoded (get_or (strings s) k []) (get_or s.store.exprs k [])
  expr-encoded k h = record { is = string-expr k h; all_ok = each_at (Each Ok) [] tt s.store.exprs f.exprs_ok k }

  file-ok : (k : ℕ) → FileOk (get_or s.store.files k empty_file)
  file-ok k = each_at FileOk empty_file (record { before_ok = tt; after_ok = tt }) s.store.files f.files_ok k

  pub before-encoded : (k : ℕ) → k < 32 → EncodedRecords (get_or (strings s) (layout.before_string k) []) (get_or s.store.files k empty_file).before
  before-encoded k h = record { is = string-before k h; all_ok = (file-ok k).before_ok }

  pub after-encoded : (k : ℕ) → k < 32 → EncodedRecords (get_or (strings s) (layout.after_string k) []) (get_or s.store.files k empty_file).after
  after-encoded k h = record { is = string-after k h; all_ok = (file-ok k).after_ok }

  -- ---- the cells of a state

  length-scalars : length (each three (scalars s)) ≡ layout.first_length
  length-scalars = length-each 3 three (λ n. refl) (scalars s)

  pub length-state_cells : length (state_cells s) ≡ limit.state
  unfolding state_cells
  length-state_cells =
      simp length-append (omega (arith, length-scalars, length-string_cells (strings s) length-strings (omega (arith, fine-room s f))))

  pub strings_in-cells : strings_in (drop layout.first_length (state_cells s)) ≡ strings s
  unfolding state_cells
  strings_in-cells = rw (drop_at (each three (scalars s)) (string_cells (strings s)) 24 length-scalars) (strings-back (strings s) length-strings)

  pub scalars-in-cells : threes_in layout.scalars_count (state_cells s) ≡ scalars s
  unfolding state_cells
  scalars-in-cells = threes-back (scalars s) (string_cells (strings s))

  -- what is written is read back
  pub state-back : state_in (state_cells s) ≡ s
  unfolding state_in
  state-back = rw (strings_in-cells, scalars-in-cells) state_by-back

  -- the memory after a call that leaves the state s
  pub written_back : (m : List ℕ) → state_of (written s m) ≡ s
  unfolding state_of written
  written_back m = rw (take_at (state_cells s) (drop limit.state m) limit.state length-state_cells) state-back

  pub length-written : (m : List ℕ) → T (long_enough m) → length (written s m) ≡ length m
  unfolding written
  length-written m h =
      let k = leb→le limit.state (length m) h in
      simp (length-append, length-drop) (omega (arith, length-state_cells))

  scalars-below : Below 16777216 (scalars s)
  scalars-below =
      let at : (k : ℕ) → get_or s.store.places k 0 ≤ limit.input = each_at (λ n. n ≤ limit.input) 0 (omega arith) s.store.places f.places_ok in (
        sign_below s.store.plus,
        (
          omega (arith, at 0),
          (
            omega (arith, at 1),
            (
              omega (arith, f.next_below),
              (
                omega (arith, f.last_most),
                (omega (arith, f.components_most), (omega (arith, f.chars_most), (omega (arith, f.records_most), tt))),
              ),
            ),
          ),
        ),
      )

-- ---- a well-formed state

module _ (p : Program) (ins : Inputs) (s : State) (gp : T (good_program p)) (gi : T (good_inputs ins)) (g : T (good_state p ins s)) where
  abbrev state_fine : Fine s
  state_fine = good-fine p ins s gp gi g

  -- its cells are bytes
  pub state_cells-below : Below 256 (state_cells s)
  unfolding state_cells
  state_cells-below =
      let short : Each (λ v. length v < 65536) (strings s) = strings-short (strings s) 65536 (omega (arith, fine-room s state_fine)) in
      below-append 256 (each three (scalars s)) (string_cells (strings s)) (threes-below (scalars s) (scalars-below s state_fine))
      (string_cells-below (strings s) short (good-strings-below p ins s gp gi g))

  pub written-good : (m : List ℕ) → T (good_memory p ins (written s m))
  unfolding good_memory
  written-good m =
      let w : List ℕ = written s m in
      let back : state_of w ≡ s = written_back s state_fine m in
      let front : take limit.state w ≡ state_cells s = unfold written in take_at (state_cells s) (drop limit.state m) limit.state (length-state_cells s state_fine) in
      let long : limit.state ≤ length w = unfold written in simp length-append (omega (arith, length-state_cells s state_fine)) in
      T-both (long_enough w && bytes_equal (state_cells (state_of w)) (take limit.state w)) (good_state p ins (state_of w))
      (T-both (long_enough w) (bytes_equal (state_cells (state_of w)) (take limit.state w)) (le→leb limit.state (length w) long)
      (rw (back, front) (same_bytes-refl (state_cells s)))) (rw back g)

-- the state that start makes is a 1 and zeros
pub started-cells : state_cells started ≡ 1 ∷ replicate 40959 0
unfolding started state_cells strings file_strings components_bytes records_bytes lengths used string_cells held recorded
started-cells = refl

-- ---- a well-formed memory

pub memory-facts : (p : Program) (ins : Inputs) (m : List ℕ) → T (good_memory p ins m) → AtRest p ins m
unfolding good_memory
memory-facts p ins m h =
    let a : Bool = long_enough m in
    let b : Bool = bytes_equal (state_cells (state_of m)) (take limit.state m) in
    let c : Bool = good_state p ins (state_of m) in
    record {
      long = leb→le limit.state (length m) (T-left a b (T-left (a && b) c h));
      cells = same_bytes-eq (state_cells (state_of m)) (take limit.state m) (T-right a b (T-left (a && b) c h));
      good = T-right (a && b) c h;
    }

-- what is well formed is written in one way only
pub memory-one-form : (p q : Program) (ins jns : Inputs) (m n : List ℕ) → T (good_memory p ins m) → T (good_memory q jns n)
    → state_of m ≡ state_of n → take limit.state m ≡ take limit.state n
memory-one-form p q ins jns m n h k e = sym (memory-facts p ins m h).cells ∙ ap state_cells e ∙ (memory-facts q jns n k).cells

-- a call that leaves the state leaves the memory
pub written_same : (p : Program) (ins : Inputs) (m : List ℕ) → T (good_memory p ins m) → written (state_of m) m ≡ m
unfolding written
written_same p ins m h = rw (memory-facts p ins m h).cells (take-append-drop limit.state m)

-- the strings and scalars of a well-formed memory are those of its state
module _ (p : Program) (ins : Inputs) (m : List ℕ) (gp : T (good_program p)) (gi : T (good_inputs ins)) (h : T (good_memory p ins m)) where
  pub memory-fine : Fine (state_of m)
  memory-fine = good-fine p ins (state_of m) gp gi (memory-facts p ins m h).good

  pub memory-strings : strings_in (drop layout.first_length (take limit.state m)) ≡ strings (state_of m)
  memory-strings = rw (← (memory-facts p ins m h).cells) (strings_in-cells (state_of m) memory-fine)

  pub memory-scalars : threes_in layout.scalars_count (take limit.state m) ≡ scalars (state_of m)
  memory-scalars = rw (← (memory-facts p ins m h).cells) (scalars-in-cells (state_of m) memory-fine)
