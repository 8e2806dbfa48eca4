-- `heads::read_head` meets its contract.
use Prim.Native.Nat.{◌-◌}
use lib.ListN.{length}
use Rattle.heads.proofs.Reading.{Going}
use Rattle.heads.proofs.read_head.Given as goal

abbrev pub invariant-loop-t : goal.invariant-loop-t
invariant-loop-t l = Going l.rest l.n l.initial.names l.count l.t l.first l.fault l.worst l.names l.c

abbrev pub decreases-loop-t : goal.decreases-loop-t
decreases-loop-t l = length l.rest - l.t.at
