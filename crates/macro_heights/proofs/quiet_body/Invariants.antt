-- `macro_heights::quiet_body` meets its contract.
use Rattle.std.proofs.Common.{length}
use Rattle.macro_heights.proofs.Measuring.{QuietRest}
use Rattle.macro_heights.proofs.quiet_body.Given as goal

abbrev pub invariant-loop-i : goal.invariant-loop-i
invariant-loop-i l = let x = l.macros.listed in QuietRest x.coded.text.now x.coded.code.now x.firsts.now (length x.firsts.now) l.quiet l.q l.place l.i-iterator l.height
