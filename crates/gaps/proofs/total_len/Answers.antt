-- `gaps::total_len` meets its contract.
use Rattle.gaps.proofs.Spread.{counted_none, counted_more, counted-all}
use Rattle.gaps.proofs.total_len.Goals as goal

pub loop-j-init : goal.loop-j-init
loop-j-init c = counted_none

pub loop-j-preserved : goal.loop-j-preserved
loop-j-preserved c = counted_more c.requires c.loop-j.invariant c.loop-j-test.true c.string_at.ensures

pub returns : goal.returns
returns c = counted-all c.loop-j.invariant c.loop-j-test.false
