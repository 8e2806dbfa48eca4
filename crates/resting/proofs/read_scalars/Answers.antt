-- `resting::read_scalars` meets its contract.
use mathlib.Core.Path.{refl, ◌∙◌}
use native.Mathlib.Omega.{arith}
use Rattle.resting.proofs.Laws.{reading-none, reading-more, reading-all, first-read}
use Rattle.resting.proofs.read_scalars.Goals as goal

pub loop-k-init : goal.loop-k-init
loop-k-init c = reading-none _ _ refl

pub loop-k-preserved : goal.loop-k-preserved
loop-k-preserved c = reading-more c.loop-k.invariant (omega arith) c.three_at.ensures.is refl

pub from_row-requires : goal.from_row-requires
from_row-requires c = first-read (reading-all c.loop-k.invariant (omega arith)) c.requires

pub returns : goal.returns
returns c = c.from_row.ensures ∙ reading-all c.loop-k.invariant (omega arith)
