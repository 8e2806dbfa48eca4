-- `macro_heights::right_macro` meets its contract.
use Rattle.macro_heights.proofs.Aiming.{aims-untyped, aims-lost, aims-counted}
use Rattle.std.proofs.Common.{length}
use Rattle.macro_heights.proofs.right_macro.Goals as goal

pub returns-then-not-is_typed_call : goal.returns-then-not-is_typed_call
returns-then-not-is_typed_call c = let l = c.args.macros.now.listed in
    aims-untyped l.coded.text.now l.coded.code.now l.firsts.now (length l.firsts.now) c.args.i c.is_typed_call.ensures c.if-not-is_typed_call.true

pub returns-in_err-number : goal.returns-in_err-number
returns-in_err-number c = let l = c.args.macros.now.listed in
    rw c.from_residual.ensures (aims-lost l.coded.text.now l.coded.code.now l.firsts.now (length l.firsts.now) c.args.i c.is_typed_call.ensures c.if-not-is_typed_call.false c.in_err-number.ensures)

pub returns : goal.returns
returns c = let l = c.args.macros.now.listed in
    aims-counted l.coded.text.now l.coded.code.now l.firsts.now (length l.firsts.now) c.args.i c.is_typed_call.ensures c.if-not-is_typed_call.false c.in_ok-number.ensures c.first_cell.ensures.0 c.count_fault-uneven.ensures c.is_none.result c.is_none.ensures c.then_some.ensures
