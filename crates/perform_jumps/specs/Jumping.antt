-- What the jumps, calls and returns, and STOP ask. c is the table.
use Rattle.std.specs.Prelude.{Bool, true, false, List, ℕ, T}
use Rattle.language.specs.Program.{Op}
use Rattle.language.specs.Program.Op.{SKOMI, SKOPL, WYMI, WYPL}
use Rattle.language.specs.Values.{State}
use Rattle.jumps.specs.declared.Way.{Way}
use Rattle.jumps.specs.declared.Way.TheVariants.{Jump, Call}
use Rattle.performing.specs.Performing.{leads}
use Rattle.performing.specs.Places.{CarryingAt}

-- the jump or the call where H is plus, and where it is minus
abbrev pub sign_op : Way → Bool → Op
sign_op Jump true = SKOPL
sign_op Jump false = SKOMI
sign_op Call true = WYPL
sign_op Call false = WYMI

-- any of them, in place i
pub record Jumping (c : List ℕ) (σ : State) (op : Op) (i : ℕ) : Type 0 where
  pub carrying : CarryingAt c σ op i
  pub leads : T (leads op)
