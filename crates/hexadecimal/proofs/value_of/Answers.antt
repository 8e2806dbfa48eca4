-- `hexadecimal::value_of` meets its contract.
use native.Mathlib.Omega.{arith}
use Rattle.hexadecimal.proofs.Laws.{value_low, value_high, value_below, value_between, value_above}
use Rattle.hexadecimal.proofs.value_of.Goals as goal

pub returns-in-48-to-57 : goal.returns-in-48-to-57
returns-in-48-to-57 c = value_low c.args.b (omega arith) (omega arith) (omega arith)

pub returns-in-65-to-70 : goal.returns-in-65-to-70
returns-in-65-to-70 c = value_high c.args.b (omega arith) (omega arith) (omega arith)

pub returns-in_default : goal.returns-in_default
returns-in_default c = value_below c.args.b (omega arith) (omega arith)

pub returns-in_default-2 : goal.returns-in_default-2
returns-in_default-2 c = value_between c.args.b (omega arith) (omega arith) (omega arith)

pub returns-in_default-3 : goal.returns-in_default-3
returns-in_default-3 c = value_above c.args.b (omega arith) (omega arith)
