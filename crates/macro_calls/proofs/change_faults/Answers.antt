-- `macro_calls::change_faults` meets its contract.
use Rattle.std.proofs.Common.{length}
use Rattle.macro_calls.proofs.Reading.{told-other, told-lost, told-found}
use Rattle.macro_calls.proofs.change_faults.Goals as goal

pub returns-then-not-is_typed_call : goal.returns-then-not-is_typed_call
returns-then-not-is_typed_call c = let x = c.args.list.now in
    told-other x.coded.text.now x.coded.code.now x.firsts.now (length x.firsts.now) c.args.i c.is_typed_call.ensures c.if-not-is_typed_call.true

pub returns-in_default : goal.returns-in_default
returns-in_default c = let x = c.args.list.now in
    told-lost x.coded.text.now x.coded.code.now x.firsts.now (length x.firsts.now) c.args.i c.is_typed_call.ensures c.if-not-is_typed_call.false c.bytes_at.ensures c.in_default.ensures c.high.ensures.0

pub returns : goal.returns
returns c = let x = c.args.list.now in
    told-found x.coded.text.now x.coded.code.now x.firsts.now (length x.firsts.now) c.args.i c.is_typed_call.ensures c.if-not-is_typed_call.false c.bytes_at.ensures c.in-Some.ensures c.first_cell.ensures.0 c.count_fault.ensures
