-- `arithmetic::remainder` meets its contract.
use Rattle.arithmetic.proofs.Numbers.{size-some}
use Rattle.arithmetic.proofs.remainder.Goals as goal

pub nonzero_rem-size : goal.nonzero_rem-size
nonzero_rem-size c = size-some c.size-2.ensures c.requires.coded.right c.requires.some
