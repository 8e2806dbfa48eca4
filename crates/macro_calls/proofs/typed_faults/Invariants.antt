-- `macro_calls::typed_faults` meets its contract.
use Rattle.std.proofs.Common.{length}
use Rattle.macro_calls.proofs.Walking.{PassingBodies}
use Rattle.macro_calls.proofs.typed_faults.Given as goal

abbrev pub invariant-loop-first : goal.invariant-loop-first
invariant-loop-first l = let x = l.list in PassingBodies x.coded.text.now x.coded.code.now x.firsts.now (length x.firsts.now) l.first-index l.faults
