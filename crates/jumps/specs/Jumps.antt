-- What jumps and calls by a label ask and tell. c is the table, k the label's place.
use Rattle.std.specs.Prelude.{◌≡◌, cond, List, ℕ, suc, ◌<◌, leb, length}
use Rattle.language.specs.Limits as limit
use Rattle.language.specs.Program.{label_at}
use Rattle.language.specs.Values.{State}
use Rattle.layout.specs.Table.{program_of}
use Rattle.machine.specs.Effects.{Go}
use Rattle.machine.specs.Effects.Go.{jump, call}
use Rattle.machine.specs.Steps.{gone}
use Rattle.state.specs.Working.{HoldsState}
use Rattle.control.specs.Going.{going}
use Rattle.table.specs.Good.{GoodLabel}
use Rattle.jumps.specs.declared.Way.{Way}
use Rattle.jumps.specs.declared.Way.TheVariants.{Jump, Call}

-- a jump that may go on with the following instruction instead, and a call
pub record Turns (c : List ℕ) (s : State) (k : ℕ) : Type 0 where
  pub label : GoodLabel c k
  pub following : suc s.next < limit.instructions

-- jumps and calls: how they go on
abbrev pub going_by : Way → ℕ → Go
going_by Jump = jump
going_by Call = call

-- the instruction that label k of the table stands at
abbrev pub led_to : List ℕ → ℕ → ℕ
led_to c k = (label_at (program_of c) k).target

-- to go on as an instruction says: 59 where the return stack would be too long
pub record Led (s : State) (g : Go) (told : ℕ) (s' : State) : Type 0 where
  pub is : told ≡ cond (leb (length (gone g s.next s.stack).1) limit.stack) 0 59
  pub holds : HoldsState s' (cond (leb (length (gone g s.next s.stack).1) limit.stack) (going g s) s)
