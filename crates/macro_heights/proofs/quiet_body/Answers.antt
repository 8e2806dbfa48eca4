-- `macro_heights::quiet_body` meets its contract.
use Rattle.std.proofs.Common.{sym, length, arith}
use Rattle.macro_heights.proofs.Measuring.{rest-first, quiet-on, quiet-end}
use Rattle.macro_heights.specs.Levels.{quiet_at}
use Rattle.macros.specs.Silence.{silent_piece}
use Rattle.macro_code.specs.Code.{macros_in}
use borrow.Author.Tests.{le-leb}
use Rattle.macro_heights.proofs.quiet_body.Goals as goal

pub loop-i-init : goal.loop-i-init
loop-i-init c = let l = c.args.macros.now.listed in
    rest-first quiet_at (silent_piece (macros_in l.coded.text.now l.coded.code.now l.firsts.now (length l.firsts.now))) l.coded.text.now l.coded.code.now l.firsts.now (length l.firsts.now) c.args.quiet.now c.args.q
    (rw (sym c.into_iter-i-iterator.ensures.into_iter_gives) at c.changes-i-items.ensures) c.high-place.ensures.0 (λ l u. le-leb 0 l (omega arith))

pub loop-i-preserved : goal.loop-i-preserved
loop-i-preserved c = let l = c.args.macros.now.listed in
    quiet-on l.coded.text.now l.coded.code.now l.firsts.now (length l.firsts.now) c.args.quiet.now c.loop-i.invariant c.in-Some.ensures.steps c.high.ensures.0 c.gap_height.ensures c.max.ensures c.quiet_change.ensures c.max-height.ensures c.low-place.ensures.0

pub returns : goal.returns
returns c = let l = c.args.macros.now.listed in
    quiet-end l.coded.text.now l.coded.code.now l.firsts.now (length l.firsts.now) c.args.quiet.now c.loop-i.invariant c.in-None.ensures.steps.0 c.low.ensures.0 c.gap_height-2.ensures c.max-2.ensures
