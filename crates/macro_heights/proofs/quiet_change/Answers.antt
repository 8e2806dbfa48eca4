-- `macro_heights::quiet_change` meets its contract.
use Rattle.macro_heights.proofs.Measuring.{quiet-value, quiet-nothing, quiet-call}
use mathlib.Core.Path.{refl}
use lib.ListN.{length}
use Rattle.macro_heights.proofs.quiet_change.Goals as goal

pub returns-in-Value : goal.returns-in-Value
returns-in-Value c = let l = c.args.macros.now.listed in
    quiet-value l.coded.text.now l.coded.code.now l.firsts.now (length l.firsts.now) c.args.quiet.now c.args.i refl c.in-Value.ensures.0

pub returns-in-Call : goal.returns-in-Call
returns-in-Call c = let l = c.args.macros.now.listed in
    quiet-call l.coded.text.now l.coded.code.now l.firsts.now (length l.firsts.now) c.args.quiet.now c.args.i refl c.in-Call.ensures.0 c.call_height.ensures.0 c.call_height.ensures.1 c.call_height.ensures.2

pub returns-in-Nothing : goal.returns-in-Nothing
returns-in-Nothing c = let l = c.args.macros.now.listed in
    quiet-nothing l.coded.text.now l.coded.code.now l.firsts.now (length l.firsts.now) c.args.quiet.now c.args.i refl c.in-Nothing.ensures.0 c.in-Nothing.ensures.1
