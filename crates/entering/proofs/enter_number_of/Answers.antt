-- `entering::enter_number_of` meets its contract.
use borrow.Enum.Refused.{opened}
use Rattle.entering.proofs.Adding.{no_number, number-none, number_small, number-entered}
use Rattle.entering.proofs.enter_number_of.Goals as goal

pub returns-then-is_small : goal.returns-then-is_small
returns-then-is_small c = λ s i h. rw c.if-is_small.true (number_small h c.in-Number.is c.is_small.ensures (c.if-is_small.true))

pub add_number-requires : goal.add_number-requires
add_number-requires c = c.requires

pub returns-else-is_small : goal.returns-else-is_small
returns-else-is_small c = λ s i h. number-entered h c.in-Number.is c.is_small.ensures (c.if-is_small.false) c.add_number.ensures

pub returns-in_default : goal.returns-in_default
returns-in_default c = λ s i h. number-none h (no_number c.args.x (opened c.in_default.in_default-own.keys2))
