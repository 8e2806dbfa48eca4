-- The frames of a state as a memory has them: by its first cells and its strings.
use Rattle.std.specs.Prelude.{◌≡◌, List, [], ◌∷◌, ◌++◌, ℕ, zero, suc, ◌*◌, ◌-◌, T, get_or, take, drop, replicate}
use Rattle.language.specs.Limits as limit
use Rattle.language.specs.Program.{Program}
use Rattle.language.specs.Values.{State, Inputs}
use Rattle.lists.specs.Lists.{each}
use Rattle.machine.specs.WellFormed.{good_program, good_inputs, good_state}
use Rattle.layout.specs.Cells.{three}
use Rattle.layout.specs.Memory.{strings, good_memory}
use Rattle.layout.specs.Places as layout
use Rattle.layout.specs.Strings.{string_cells, strings_in}
use Rattle.state_frames.specs.Frames.{Frame, framed, head, expression, file, output, stack}
use Rattle.state_frames.specs.Saved.{head_count, head_numbers, file_contents, numbered, saved}

-- n files, two strings each
unfoldable pub files_by : ℕ → List (List ℕ) → List (List ℕ)
files_by zero vs = []
files_by (suc n) vs = file_contents (get_or vs 0 []) (get_or vs 1 []) ∷ files_by n (drop 2 vs)

-- of the head's bytes and the strings
unfoldable pub slots_by : List ℕ → List (List ℕ) → List Frame
slots_by h vs =
    framed head 0 h
    ∷ (
    numbered expression 1 (take limit.expressions vs)
    ++ (numbered file 1 (files_by limit.files (drop layout.first_file vs)) ++ (numbered output 1 (drop layout.first_output vs) ++ (framed stack 0 (get_or vs layout.stack_string []) ∷ [])))
    )

-- of a memory's cells
unfoldable pub slots_in : List ℕ → List Frame
slots_in m = slots_by (take (3 * head_count) m) (strings_in (drop layout.first_length (take limit.state m)))

-- ---- what writer and reader work with

-- the cells of a state, with zeros for the totals
unfoldable pub untotalled : State → List ℕ
untotalled s = each three (head_numbers s) ++ (replicate (layout.first_length - 3 * head_count) 0 ++ string_cells (strings s))

-- question 63 was answered yes: a memory that can be written
pub record Saveable (m : List ℕ) : Type 0 where
  pub program : Program
  pub inputs : Inputs
  pub good : T (good_program program)
  pub right : T (good_inputs inputs)
  pub memory : T (good_memory program inputs m)

-- a state that can be read back from the text t
pub record SavedAs (t : List ℕ) (s : State) : Type 0 where
  pub program : Program
  pub inputs : Inputs
  pub good : T (good_program program)
  pub right : T (good_inputs inputs)
  pub state : T (good_state program inputs s)
  pub text : t ≡ saved s
