-- `macro_heights::loose_body` meets its contract.
use Rattle.std.proofs.Common.{length}
use Rattle.macro_heights.proofs.Measuring.{LooseRest}
use Rattle.macro_heights.proofs.loose_body.Given as goal

abbrev pub invariant-loop-i : goal.invariant-loop-i
invariant-loop-i l =
    let x = l.macros.listed in
    (place : _) × LooseRest x.coded.text.now x.coded.code.now x.firsts.now (length x.firsts.now) l.loose l.q place l.i-iterator l.height
