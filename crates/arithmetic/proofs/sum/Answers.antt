-- `arithmetic::sum` meets its contract.
use Rattle.std.proofs.Common.{rules}
use Rattle.arithmetic.proofs.Numbers.{sum_out, sum-in}
use Rattle.arithmetic.proofs.sum.Goals as goal

pub returns-then-not-contains : goal.returns-then-not-contains
returns-then-not-contains c = sum_out c.requires (search rules)

pub returns : goal.returns
returns c = sum-in c.requires (search rules)
