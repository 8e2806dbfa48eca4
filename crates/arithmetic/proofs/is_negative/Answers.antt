-- `arithmetic::is_negative` meets its contract.
use Rattle.arithmetic.proofs.Numbers.{negative-is}
use Rattle.arithmetic.proofs.is_negative.Goals as goal

pub returns : goal.returns
returns c = negative-is c.args.code
