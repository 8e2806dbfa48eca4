-- The frames that a well-formed memory has are those of its state.
use Rattle.std.specs.Prelude.{◌≡◌, ℕ, ◌*◌, T, length, get_or, take, drop}
use Rattle.std.proofs.Math.Path.{refl, ap}
use Rattle.std.proofs.Common.{sym, ◌∙◌, arith, drop-drop, get_or-drop, take-take}
use mathlib.Core.List.{List, [], ◌∷◌, ◌++◌, map}
use Rattle.language.specs.Limits as limit
use Rattle.lists.specs.Lists.{each}
use Rattle.language.specs.Program.{Program}
use Rattle.language.specs.Values.{File, State, Inputs}
use Rattle.machine.specs.WellFormed.{good_program, good_inputs}
use Rattle.layout.specs.Bounds.{Fine}
use Rattle.layout.specs.Cells.{two, three}
use Rattle.layout.specs.Memory.{file_strings, strings, state_cells, state_of, good_memory}
use Rattle.layout.proofs.MemoryLaws.{take-E, drop-E, drop-F, memory-facts, memory-fine, memory-strings}
use Rattle.state_frames.specs.Frames.{framed}
use Rattle.state_frames.specs.Saved.{head_count, head_numbers, file_bytes, numbered, slots}
use Rattle.state_frames.specs.MemoryFrames.{files_by, slots_by, slots_in}

files_by-strings : (fs : List File) (t : List (List ℕ)) → files_by (length fs) (file_strings fs ++ t) ≡ map file_bytes fs
unfolding files_by file_strings
files_by-strings [] t = refl
files_by-strings (f ∷ fs) t = ap (λ cs. file_bytes f ∷ cs) (files_by-strings fs t)

module _ (s : State) (f : Fine s) where
  files-are : files_by limit.files (drop 32 (strings s)) ≡ map file_bytes s.store.files
  files-are =
      let rest = each two s.stack ∷ s.store.outputs in
      ap (files_by limit.files) (drop-E s f) ∙ ap (λ (n : ℕ). files_by n (file_strings s.store.files ++ rest)) (sym f.files_is) ∙ files_by-strings s.store.files rest

  outputs_are : drop 97 (strings s) ≡ s.store.outputs
  outputs_are = sym (drop-drop 1 96 (strings s)) ∙ ap (drop 1) (drop-F s f)

  stack_is : get_or (strings s) 96 [] ≡ each two s.stack
  stack_is = sym (get_or-drop 96 (strings s) 0 []) ∙ ap (λ vs. get_or vs 0 []) (drop-F s f)

  -- the strings and the head's bytes say all frames
  pub slots_by-strings : slots_by (each three (head_numbers s)) (strings s) ≡ slots s
  unfolding slots_by slots
  slots_by-strings =
      let a = take-E s f in
      let b = files-are in
      let c = outputs_are in
      let d = stack_is in
      λ j. framed 1 0 (each three (head_numbers s)) ∷ (numbered 2 1 (a j) ++ (numbered 3 1 (b j) ++ (numbered 4 1 (c j) ++ (framed 5 0 (d j) ∷ []))))

  -- the head is the first cells
  pub head-cells : take (3 * head_count) (state_cells s) ≡ each three (head_numbers s)
  unfolding state_cells
  head-cells = refl

-- a well-formed memory
pub slots-of-memory : (p : Program) (ins : Inputs) (m : List ℕ) → T (good_program p) → T (good_inputs ins) → T (good_memory p ins m) → slots_in m ≡ slots (state_of m)
unfolding slots_in
slots-of-memory p ins m gp gi h =
    let f = memory-fine p ins m gp gi h in
    let s = state_of m in
    let a : take (3 * head_count) m ≡ each three (head_numbers s) =
    sym (take-take (3 * head_count) limit.state m (omega arith)) ∙ ap (take (3 * head_count)) (sym (memory-facts p ins m h).cells) ∙ head-cells s f in
    let b = memory-strings p ins m gp gi h in
    (λ j. slots_by (a j) (b j)) ∙ slots_by-strings s f
