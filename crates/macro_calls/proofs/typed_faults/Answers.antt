-- `macro_calls::typed_faults` meets its contract.
use Rattle.std.proofs.Common.{length, arith}
use Rattle.macro_calls.proofs.Walking.{bodies-first, bodies-on, bodies-end}
use Rattle.macro_calls.proofs.typed_faults.Goals as goal

pub loop-first-init : goal.loop-first-init
loop-first-init c = let x = c.args.list.now in bodies-first x.coded.text.now x.coded.code.now x.firsts.now (length x.firsts.now)

pub loop-first-preserved : goal.loop-first-preserved
loop-first-preserved c = let x = c.args.list.now in
    bodies-on x.coded.text.now x.coded.code.now x.firsts.now (length x.firsts.now) c.loop-first.invariant c.from.ensures c.body_faults.ensures c.and-faults.ensures

pub returns : goal.returns
returns c = let x = c.args.list.now in
    bodies-end x.coded.text.now x.coded.code.now x.firsts.now (length x.firsts.now) c.loop-first.invariant (omega arith) c.args.section c.body_faults-2.ensures c.and.ensures
