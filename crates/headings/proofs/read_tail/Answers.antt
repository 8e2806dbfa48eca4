-- `headings::read_tail` meets its contract.
use mathlib.Core.Path.{sym, ◌∙◌}
use native.Mathlib.Omega.{arith}
use Rattle.heads.specs.HeadLaws.{token-ahead}
use Rattle.headings.specs.HeadingLaws.{reads_first, reads_end, reads_on}
use Rattle.headings.proofs.read_tail.Goals as goal

pub loop-more-init : goal.loop-more-init
loop-more-init c = (c.args.first.next, reads_first c.requires, c.next_item-t.ensures)

pub next_item-t-requires-in-loop-more : goal.next_item-t-requires-in-loop-more
next_item-t-requires-in-loop-more c = c.loop-more.invariant.2.stands.most

pub loop-more-smaller : goal.loop-more-smaller
loop-more-smaller c =
    let k = c.loop-more.invariant.2.stands in
    omega (arith, k.most, token-ahead k (sym c.stops.ensures ∙ c.loop-more-test.true), c.next_item-t-in-loop-more.ensures.from)

pub loop-more-preserved : goal.loop-more-preserved
loop-more-preserved c =
    let l = c.loop-more.invariant in
    (c.loop-more.t.next, reads_on l.1 l.2 (sym c.stops.ensures ∙ c.loop-more-test.true) c.lower-more.ensures c.worse-w.ensures, c.next_item-t-in-loop-more.ensures)

pub returns : goal.returns
returns c = let l = c.loop-more.invariant in reads_end l.1 l.2 (sym c.stops.ensures ∙ c.loop-more-test.false) c.following.ensures
