-- `arithmetic::size` meets its contract.
use Rattle.arithmetic.proofs.Numbers.{size-of}
use Rattle.arithmetic.proofs.size.Goals as goal

pub returns : goal.returns
returns c = size-of c.args.code c.abs_diff.ensures c.requires
