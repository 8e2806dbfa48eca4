-- Where a run goes on, and what the functions that lead it there ask. s is the state.
use Rattle.std.specs.Prelude.{◌≡◌, ℕ, suc, ◌≤◌, ◌<◌, length}
use Rattle.language.specs.Limits as limit
use Rattle.language.specs.Values.{State}
use Rattle.machine.specs.Effects.{Go}
use Rattle.machine.specs.Steps.{gone}
use Rattle.state.specs.Working.{Stands}

-- the state that goes on as an instruction says
unfoldable pub going : Go → State → State
going g s = let c = gone g s.next s.stack in record { store = s.store; next = c.0; stack = c.1 }

-- how many returns are kept
pub record Deep (s : State) (r : ℕ) : Type 0 where
  pub stands : Stands s
  pub is : r ≡ length s.stack
  pub most : r ≤ limit.stack

-- instruction t, with the way back kept
pub record Callable (s : State) (t : ℕ) : Type 0 where
  pub following : suc s.next < limit.instructions
  pub below : t < limit.instructions
  pub room : length s.stack < limit.stack
