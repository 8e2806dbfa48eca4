-- `hexadecimal::digit_of` meets its contract.
use Rattle.hexadecimal.proofs.Laws.{digit_low, digit-high}
use Rattle.hexadecimal.proofs.digit_of.Goals as goal

pub returns-then-n-lt10 : goal.returns-then-n-lt10
returns-then-n-lt10 c = digit_low c.args.n c.if-n-lt10.true

pub returns : goal.returns
returns c = digit-high c.args.n c.requires c.if-n-lt10.false
