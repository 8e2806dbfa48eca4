-- The longest text of a state: 47,754 bytes, so that a buffer of this length takes every well-formed state.
use Rattle.std.specs.Prelude.{◌≡◌, refl, Bool, true, false, cond, ◌&&◌, ℕ, suc, ◌+◌, ◌*◌, ◌≤◌, T, leb, length}
use Rattle.std.proofs.Common.{◌∙◌, le→leb, length-append}
use mathlib.Core.List.{List, [], ◌∷◌, ◌++◌, map}
use native.Mathlib.Omega.{arith}
use Rattle.std.proofs.Math.ListN.{length-map}
use Rattle.lists.specs.ListLaws.{T-both, parts, total-append}
use Rattle.lists.specs.Lists.{total, filled, keep}
use Rattle.language.specs.Values.{File, State, Inputs}
use Rattle.machine.specs.WellFormed.{good_inputs}
use Rattle.layout.specs.Bounds.{Fine}
use Rattle.layout.proofs.CellLaws.{length-each}
use Rattle.layout.specs.Cells.{two}
use Rattle.layout.specs.Components.{components_bytes, records_bytes}
use Rattle.layout.proofs.FineLaws.{fine-room}
use Rattle.layout.specs.Memory.{file_strings, strings, state_of, good_memory}
use Rattle.layout.proofs.MemoryLaws.{memory-fine}
use Rattle.layout.proofs.StringLaws.{used-append, used-cons}
use Rattle.layout.specs.Strings.{used}
use Rattle.layout.specs.Table.{program_of, good_table}
use Rattle.layout.proofs.TableLaws.{table-facts}
use Rattle.calls.specs.Filling.Filling.{fills}
use Rattle.state_frames.specs.Hexadecimal.{two_digits, hexadecimal, line}
use Rattle.state_frames.specs.Frames.{Frame, framed, frame_bytes, frame_line, frames_text}
use Rattle.state_frames.specs.Saved.{expressions_bytes, files_bytes, stack_bytes, file_contents, file_bytes, numbered, slots, nonempty, frames_of, saved}
use Rattle.state_frames.specs.Keeping.{write_questions, write_of}
use Rattle.state_frames.proofs.KeepingLaws.{all_yes}

-- ---- the bytes of a frame's line

pub length-line : (l : List ℕ) → length (line l) ≡ 2 * length l + 1
unfolding hexadecimal line
length-line l = simp length-append (omega (arith, length-each 2 two_digits (λ n. refl) l))

abbrev pub cost : Frame → ℕ
cost f = 11 + 2 * length f.contents

pub length-frame : (f : Frame) → length (frame_line f) ≡ cost f
unfolding frame_bytes
length-frame f = length-line (frame_bytes f) ∙ simp length-append (omega arith)

pub length-text : (fs : List Frame) → length (frames_text fs) ≡ total cost fs
unfolding frames_text
length-text [] = refl
length-text (f ∷ fs) = simp length-append (omega (arith, length-frame f, length-text fs))

-- ---- of a state

keep-most : {X : Type 0} (g : X → ℕ) (q : X → Bool) (xs : List X) → total g (keep q xs) ≤ total g xs
keep-most g q [] = omega arith
keep-most g q (x ∷ xs) = go (q x) (keep-most g q xs)
  where
    go : (b : Bool) → total g (keep q xs) ≤ total g xs → total g (cond b (x ∷ keep q xs) (keep q xs)) ≤ g x + total g xs
    go true h = omega arith
    go false h = omega arith

numbered-cost : (k n : ℕ) (cs : List (List ℕ)) → total cost (numbered k n cs) ≡ 11 * length cs + 2 * used cs
unfolding numbered used
numbered-cost k n [] = refl
numbered-cost k n (c ∷ cs) = simp length-append (omega (arith, numbered-cost k (suc n) cs))

file-most : (b a : List ℕ) → length (file_contents b a) ≤ 2 + length b + length a
unfolding file_contents
file-most b a = go (filled (b ++ a))
  where
    go : (q : Bool) → length (cond q (two (length b) ++ (b ++ a)) []) ≤ 2 + length b + length a
    go true = simp length-append (omega arith)
    go false = omega arith

files-most : (fs : List File) → used (map file_bytes fs) ≤ 2 * length fs + used (file_strings fs)
unfolding used file_strings
files-most [] = omega arith
files-most (f ∷ fs) = simp length-append (omega (arith, file-most (records_bytes f.before) (records_bytes f.after), files-most fs))

module _ (s : State) (f : Fine s) where
  abbrev B : List (List ℕ)
  B = file_strings s.store.files

  slots-cost : total cost (slots s) ≤ 47754
  unfolding slots strings
  slots-cost =
      let N2 = numbered 2 1 (expressions_bytes s) in
      let N3 = numbered 3 1 (files_bytes s) in
      let N4 = numbered 4 1 s.store.outputs in
      let N5 : List Frame = framed 5 0 (stack_bytes s) ∷ [] in
      omega (
        arith,
        total-append cost N2 (N3 ++ (N4 ++ N5)),
        total-append cost N3 (N4 ++ N5),
        total-append cost N4 N5,
        numbered-cost 2 1 (expressions_bytes s),
        numbered-cost 3 1 (files_bytes s),
        numbered-cost 4 1 s.store.outputs,
        length-map s.store.exprs components_bytes,
        length-map s.store.files file_bytes,
        files-most s.store.files,
        used-append (expressions_bytes s) (B ++ (stack_bytes s ∷ s.store.outputs)),
        used-append B (stack_bytes s ∷ s.store.outputs),
        used-cons (stack_bytes s) s.store.outputs,
        fine-room s f,
        f.exprs_is,
        f.files_is,
        f.outputs_is,
      )

  -- 68 lines of 11 bytes beside contents, a head of 15, 2 for each file, 23,424 in strings
  pub saved-most : length (saved s) ≤ 47754
  unfolding saved frames_of
  saved-most = omega (arith, length-text (frames_of s), keep-most cost nonempty (slots s), slots-cost)

-- a buffer of 47,754 bytes takes every well-formed state
pub writes : (c : List ℕ) (ins : Inputs) (m : List ℕ) (room : ℕ) → T (good_table c) → T (good_inputs ins) → T (good_memory (program_of c) ins m) → 47754 ≤ room
    → write_of c ins m room ≡ fills 80 (saved (state_of m))
unfolding write_of
writes c ins m room tc gi g h =
    let most = saved-most (state_of m) (memory-fine (program_of c) ins m (table-facts c tc).good gi g) in
    let fits = le→leb (length (saved (state_of m))) room (omega arith) in
    let tests = good_table c ∷ good_inputs ins ∷ (good_memory (program_of c) ins m && leb (length (saved (state_of m))) room) ∷ [] in
    rw (all_yes (write_questions c ins m room) (parts tests (tc, (gi, (T-both (good_memory (program_of c) ins m) (leb (length (saved (state_of m))) room) g fits, tt)))))
