-- What is asked and promised where a state is read: of a memory whose totals are filled in, and of one made from frames.
use Rattle.std.specs.Prelude.{◌≡◌, Bool, true, List, [], ◌∷◌, ℕ, T, length, replicate, Option, MatchOption}
use Rattle.check_memory.specs.Passes.{laid, sound}
use Rattle.check_memory.specs.Reads.{AllSums}
use Rattle.check_memory.specs.declared.Sums.{Sums}
use Rattle.check_state.specs.Asked.{Asked}
use Rattle.language.specs.Limits as limit
use Rattle.language.specs.Program.{Program}
use Rattle.language.specs.Values.{State, Inputs}
use Rattle.layout.specs.Memory.{state_cells}
use Rattle.layout.specs.Table.{program_of}
use Rattle.machine.specs.WellFormed.{good_program, good_inputs, good_state}
use Rattle.state_frames.specs.Frames.{sound_text, frames_in}
use Rattle.state_frames.specs.MemoryFrames.{untotalled}
use Rattle.state_frames.specs.Saved.{restored, well_framed}

-- r is what the strings of m hold; it is none only where its cells or its strings are not as those of a state
pub record Summed (m : List ℕ) (r : Option Sums) : Type 0 where
  pub told : MatchOption r (T (laid m) → T (sound m) → ⊥) (λ t. AllSums m t)

-- of a well-formed state, all cells
pub record Totalled (m m' : List ℕ) : Type 0 where
  pub long : length m' ≡ limit.state
  pub cells : (p : Program) (ins : Inputs) (s : State) → T (good_program p) → T (good_inputs ins) → T (good_state p ins s) → m ≡ untotalled s → m' ≡ state_cells s

-- questions 62, 61 and 68 were answered yes, and m is all zeros
pub record Restorable (c i j t m : List ℕ) : Type 0 where
  pub asked : Asked c i j
  pub sound : T (sound_text t)
  pub zeros : m ≡ replicate limit.state 0

-- r is the answer to question 69; where it is yes, the memory has the state that the frames give
pub record Restored (c i j t : List ℕ) (r : Bool) (m' : List ℕ) : Type 0 where
  pub long : length m' ≡ limit.state
  pub answer : r ≡ well_framed (program_of c) (i ∷ j ∷ []) (frames_in t)
  pub cells : r ≡ true → m' ≡ state_cells (restored (frames_in t))
