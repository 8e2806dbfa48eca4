-- `macro_calls::body_faults` meets its contract.
use Rattle.std.proofs.Common.{length}
use Rattle.macro_calls.proofs.Walking.{Walking}
use Rattle.macro_code.specs.Code.{macros_in}
use Rattle.macro_calls.proofs.body_faults.Given as goal

abbrev pub invariant-loop-i : goal.invariant-loop-i
invariant-loop-i l =
    let x = l.list in
    Walking (macros_in x.coded.text.now x.coded.code.now x.firsts.now (length x.firsts.now)) x.coded.text.now x.coded.code.now l.q l.i-iterator l.faults
