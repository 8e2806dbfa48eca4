-- `macro_heights::loose_body` meets its contract.
use Rattle.std.proofs.Common.{◌+◌, refl, sym, length}
use Rattle.macro_heights.proofs.Measuring.{rest-first, loose-on, loose-end}
use Rattle.macro_heights.specs.Levels.{loose_at}
use Rattle.macros.specs.Silence.{fixed_piece}
use Rattle.macro_code.specs.Code.{high, low, macros_in}
use borrow.Author.Tests.{lt-ltb}
use Rattle.macro_heights.proofs.loose_body.Goals as goal

pub loop-i-init : goal.loop-i-init
loop-i-init c = let l = c.args.macros.now.listed in (
  high l.coded.code.now (c.args.q + 1),
  rest-first loose_at (fixed_piece (macros_in l.coded.text.now l.coded.code.now l.firsts.now (length l.firsts.now))) l.coded.text.now l.coded.code.now l.firsts.now (length l.firsts.now) c.args.loose.now c.args.q
      (rw (sym c.into_iter-i-iterator.ensures.into_iter_gives) at c.changes-i-items.ensures) refl (λ l u. lt-ltb l 16 u),
)

pub loop-i-preserved : goal.loop-i-preserved
loop-i-preserved c = let l = c.args.macros.now.listed in
    (low l.coded.code.now c.in-Some.i, loose-on l.coded.text.now l.coded.code.now l.firsts.now (length l.firsts.now) c.args.loose.now c.loop-i.invariant.1 c.in-Some.ensures.steps c.loose_change.ensures c.min-height.ensures)

pub returns : goal.returns
returns c = let l = c.args.macros.now.listed in
    loose-end l.coded.text.now l.coded.code.now l.firsts.now (length l.firsts.now) c.args.loose.now c.loop-i.invariant.1 c.in-None.ensures.steps.0
