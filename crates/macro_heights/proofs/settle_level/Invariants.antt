-- `macro_heights::settle_level` meets its contract.
use Rattle.macro_heights.proofs.Passes.{InPass}
use Rattle.std.proofs.Common.{length}
use Rattle.macro_heights.proofs.settle_level.Given as goal

abbrev pub invariant-loop-k : goal.invariant-loop-k
invariant-loop-k g l = InPass g.table (length l.firsts) l.level l.k l.row
