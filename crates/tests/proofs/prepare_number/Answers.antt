-- `tests::prepare_number` meets its contract.
use native.Mathlib.Omega.{arith}
use Rattle.tests.proofs.Values.{number_low, number-high}
use Rattle.tests.proofs.prepare_number.Goals as goal

pub returns-in_default : goal.returns-in_default
returns-in_default c = λ s g. number_low s g c.args.code (omega arith)

pub returns : goal.returns
returns c = λ s g. rw (c.in-Some.ensures.1) (number-high s g c.args.code (omega (arith, c.in-Some.ensures.0)))
