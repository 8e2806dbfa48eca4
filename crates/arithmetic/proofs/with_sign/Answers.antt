-- `arithmetic::with_sign` meets its contract.
use Rattle.arithmetic.proofs.Numbers.{signed-minus, signed-plus}
use Rattle.arithmetic.proofs.with_sign.Goals as goal

pub returns-then-minus : goal.returns-then-minus
returns-then-minus c = signed-minus c.args.minus c.args.n c.if-minus.true c.requires

pub returns : goal.returns
returns c = signed-plus c.args.minus c.args.n c.if-minus.false c.requires
