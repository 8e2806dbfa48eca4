-- What demand 3 says of the answer of a single call.
use Rattle.std.specs.Prelude.{◌≡◌, ◌↔◌, ◌≢◌, List, [], ◌∷◌, ℕ, ◌<◌}
use Rattle.language.specs.Program.{Program}
use Rattle.language.specs.Values.{Inputs}
use Rattle.layout.specs.Below.Runs.{Goes}
use Rattle.layout.specs.Below.Steps.{Question, numbers, questions, refusals, step}
use Rattle.layout.specs.Memory.{state_of}
use Rattle.calls.specs.Calls.{Reply, reply_number, reply_count, Result}
use Rattle.calls.specs.Calls.Reply.{refusal}

-- a start or run is accepted: "(80, pause or stop)"
abbrev pub Accepted : Reply → Type 0
Accepted x = (number : ℕ) → x ≢ refusal number

-- the numbers of a start or run that is refused, and of one that is accepted
abbrev pub refusal_numbers : List ℕ
refusal_numbers = 62 ∷ 61 ∷ 63 ∷ []

abbrev pub accepted_numbers : List ℕ
accepted_numbers = 80 ∷ 81 ∷ numbers

-- of questions in order, the first whose answer is no has this number
abbrev pub FirstNo : ℕ → List Question → Type 0
FirstNo number qs = (numbers : List ℕ) × (refusals qs ≡ number ∷ numbers)

-- "An accepted run .. pauses exactly when its count equals its budget; else, with a lower count, it stops in the state before the failing step and
-- names the first of our questions on a step whose answer there is no."
pub record RunEnds (p : Program) (ins : Inputs) (budget : ℕ) (m : List ℕ) (r : Result) : Type 0 where
  -- the state that it was handed became the state that it leaves in as many steps as it counts
  pub counts : Goes (step p ins) (reply_count r.reply) (state_of m) (state_of r.cells)
  pub pauses : (reply_number r.reply ≡ 81) ↔ (reply_count r.reply ≡ budget)
  pub stops : reply_number r.reply ≢ 81
      → (reply_count r.reply < budget) × FirstNo (reply_number r.reply) (questions p ins (state_of r.cells))
