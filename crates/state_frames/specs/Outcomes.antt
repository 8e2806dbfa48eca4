-- What a list of starts and runs on one table answers and leaves: "runs on, with the same table, inputs and budgets, to the same answers and states".
use Rattle.std.specs.Prelude.{◌≡◌, List, [], ◌∷◌, ℕ, take}
use Rattle.language.specs.Limits as limit
use Rattle.layout.specs.Memory.{state_of}
use Rattle.calls.specs.Calls.{Call, Reply, result_of}
use Rattle.state_frames.specs.Keeping.{Reading}

-- the answer of a call, and the cells of the state after it
pub record Outcome : Type 0 where
  pub reply : Reply
  pub state_cells : List ℕ

unfoldable pub outcomes : List ℕ → List Call → List ℕ → List Outcome
outcomes c [] m = []
outcomes c (x ∷ xs) m =
    let r = result_of c x m in record { reply = r.reply; state_cells = take limit.state r.cells } ∷ outcomes c xs r.cells

-- a reading r of what was written from the memory m
pub record RunsOn (c m : List ℕ) (r : Reading) : Type 0 where
  pub accepted : r.number ≡ 80
  pub same_cells : take limit.state r.cells ≡ take limit.state m
  pub same_state : state_of r.cells ≡ state_of m
  pub same_outcomes : (xs : List Call) → outcomes c xs r.cells ≡ outcomes c xs m
