-- `arguments::refuse` meets its contract. The invariant: t is the next item from a place on up to which all is read.
use Rattle.std.proofs.Common.{ℕ}
use Prim.Native.Nat.{◌-◌}
use lib.ListN.{length}
use Rattle.lexer.specs.Tokens.{NextToken}
use Rattle.arguments.specs.LeftLaws.{Leaving}
use Rattle.arguments.proofs.refuse.Given as goal

abbrev pub invariant-loop-argument : goal.invariant-loop-argument
invariant-loop-argument l = (i : ℕ) × Leaving l.text l.fn.n l.skip l.fn.worst i l.count l.low l.over × NextToken l.text i l.t

abbrev pub decreases-loop-argument : goal.decreases-loop-argument
decreases-loop-argument l = length l.text - l.t.at
