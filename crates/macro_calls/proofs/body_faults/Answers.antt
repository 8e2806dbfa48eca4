-- `macro_calls::body_faults` meets its contract.
use Rattle.std.proofs.Common.{sym, length}
use Rattle.macro_calls.proofs.Walking.{walking-first, walking_on, walking-end}
use Rattle.macro_code.specs.Code.{macros_in}
use Rattle.macro_calls.proofs.body_faults.Goals as goal

pub loop-i-init : goal.loop-i-init
loop-i-init c = let x = c.args.list.now in
    walking-first (macros_in x.coded.text.now x.coded.code.now x.firsts.now (length x.firsts.now)) x.coded.text.now x.coded.code.now c.args.q (rw (sym c.into_iter-i-iterator.ensures.into_iter_gives) at c.changes-i-items.ensures)

pub loop-i-preserved : goal.loop-i-preserved
loop-i-preserved c = let x = c.args.list.now in
    walking_on (macros_in x.coded.text.now x.coded.code.now x.firsts.now (length x.firsts.now)) x.coded.text.now x.coded.code.now c.args.q c.loop-i.invariant c.in-Some.ensures.steps c.change_faults.ensures c.and-faults.ensures

pub returns : goal.returns
returns c = let x = c.args.list.now in
    walking-end (macros_in x.coded.text.now x.coded.code.now x.firsts.now (length x.firsts.now)) x.coded.text.now x.coded.code.now c.args.q c.loop-i.invariant c.in-None.ensures.steps.0
