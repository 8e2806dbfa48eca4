-- `arithmetic::quotient` meets its contract.
use Rattle.arithmetic.proofs.Numbers.{size-some}
use Rattle.arithmetic.proofs.quotient.Goals as goal

pub nonzero_div-size : goal.nonzero_div-size
nonzero_div-size c = size-some c.size-2.ensures c.requires.coded.right c.requires.some
