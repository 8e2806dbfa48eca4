-- `check_state::is_return` meets its contract.
use native.Mathlib.Omega.{arith}
use Rattle.check_state.proofs.Returns.{return-none, return-beyond, place, return-is}
use Rattle.check_state.proofs.is_return.Goals as goal

pub returns-in_default : goal.returns-in_default
returns-in_default c = return-none c.args.table.cells.now c.requires c.args.n (omega (arith, c.in_default.ensures))

pub returns-then-instructions-i : goal.returns-then-instructions-i
returns-then-instructions-i c = return-beyond c.args.table.cells.now c.requires c.args.n c.in-Some.ensures.0 c.in-Some.ensures.1 c.instructions.ensures c.if-instructions-i.true

pub operator-requires : goal.operator-requires
operator-requires c = place c.args.table.cells.now c.requires c.args.n c.in-Some.ensures.0 c.in-Some.ensures.1 c.instructions.ensures c.if-instructions-i.false

pub returns : goal.returns
returns c = return-is c.args.table.cells.now c.requires c.args.n c.in-Some.ensures.0 c.in-Some.ensures.1 c.instructions.ensures c.if-instructions-i.false c.operator.ensures c.is_call.ensures
