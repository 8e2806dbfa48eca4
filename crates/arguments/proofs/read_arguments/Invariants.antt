-- `arguments::read_arguments` meets its contract.
use Prim.Native.Nat.{◌-◌}
use lib.ListN.{length}
use Rattle.arguments.specs.ReadLaws.{Gathering}
use Rattle.language.specs.Instructions.{number_of}
use Rattle.language.specs.Operators.{op_by}
use Rattle.arguments.proofs.read_arguments.Given as goal

abbrev pub invariant-loop-live : goal.invariant-loop-live
invariant-loop-live l = Gathering l.text l.initial.i (number_of (op_by l.operator)) l.fn.worst l.i l.live l.place l.values l.low

abbrev pub decreases-loop-live : goal.decreases-loop-live
decreases-loop-live l = length l.text - l.i
