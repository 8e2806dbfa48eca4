-- What the writer and the reader of a state answer, and what they leave in the lent cells.
use Rattle.std.specs.Prelude.{◌≡◌, ◌&&◌, List, [], ◌∷◌, ℕ, leb, length}
use Rattle.lists.specs.Lists.{if_any}
use Rattle.language.specs.Values.{State, Inputs}
use Rattle.machine.specs.Steps.{Question, refusals}
use Rattle.machine.specs.WellFormed.{good_inputs}
use Rattle.layout.specs.Memory.{state_of, long_enough, good_memory, written}
use Rattle.layout.specs.Table.{program_of, good_table}
use Rattle.calls.specs.Calls.{packed}
use Rattle.calls.specs.Filling.{Filling, Taken, taken_number, taken_with}
use Rattle.calls.specs.Filling.Filling.{kept, fills}
use Rattle.calls.specs.Questions.{numbered}
use Rattle.state_frames.specs.Frames.{sound_text, frames_in}
use Rattle.state_frames.specs.Saved.{saved, restored, well_framed}

-- ---- the writer, on the cells c of a table, the inputs, the cells m of a state memory and a buffer of n bytes

-- "Writer and reader are lent the table and inputs too and give 62 and 61 first. An ill-formed state to write, or memory too short, brings 63"
abbrev pub write_questions : List ℕ → Inputs → List ℕ → ℕ → List Question
write_questions c ins m n =
    (62, good_table c) ∷ (61, good_inputs ins) ∷ (63, good_memory (program_of c) ins m && leb (length (saved (state_of m))) n) ∷ []

unfoldable pub write_of : List ℕ → Inputs → List ℕ → ℕ → Filling
write_of c ins m n = if_any (fills 80 (saved (state_of m))) kept (refusals (write_questions c ins m n))

-- ---- the reader, on a table, the inputs, the bytes t of a saved state and the cells m of a state memory

-- its number, with the value 0, and the cells of the memory after it
pub record Reading : Type 0 where
  pub number : ℕ
  pub cells : List ℕ

abbrev pub reading_answer : Reading → ℕ
reading_answer r = packed r.number 0

abbrev pub read_questions : List ℕ → Inputs → List ℕ → List ℕ → List Question
read_questions c ins t m =
    (62, good_table c) ∷ (61, good_inputs ins) ∷ (63, long_enough m) ∷ (68, sound_text t) ∷ (69, well_framed (program_of c) ins (frames_in t)) ∷ []

-- "A refused call changes nothing."
abbrev pub read_refused : List ℕ → ℕ → Reading
read_refused m number = record { number = number; cells = m }

abbrev pub read_accepted : State → List ℕ → Reading
read_accepted s m = record { number = 80; cells = written s m }

unfoldable pub read_of : List ℕ → Inputs → List ℕ → List ℕ → Reading
read_of c ins t m = if_any (read_accepted (restored (frames_in t)) m) (read_refused m) (refusals (read_questions c ins t m))

-- the answer r of the reader, and the memory after it
pub record Reads (x : Reading) (r : ℕ) (m' : List ℕ) : Type 0 where
  pub answer : r ≡ reading_answer x
  pub cells : m' ≡ x.cells

-- the same of the result r, taken or the first question answered no
pub record Restores (x : Reading) (r : Taken) (m' : List ℕ) : Type 0 where
  pub result_is : numbered r ≡ taken_with x.number
  pub number_is : taken_number r ≡ x.number
  pub cells_are : m' ≡ x.cells
