-- `state_saving::put_some` meets its contract.
use native.Mathlib.Omega.{arith}
use Rattle.state_saving.proofs.Contents.{empty-put, line-put, frame-room}
use Rattle.state_saving.proofs.put_some.Goals as goal

pub returns-then-n-eq0 : goal.returns-then-n-eq0
returns-then-n-eq0 c =
    let args = c.args in
    empty-put args.slot.kind args.slot.index args.contents.now args.at args.out.now c.requires.room c.if-n-eq0.true

pub put_frame-requires : goal.put_frame-requires
put_frame-requires c = frame-room c.requires (omega (arith, c.if-n-eq0.false))

pub returns : goal.returns
returns c =
    let args = c.args in
    line-put args.slot.kind args.slot.index args.contents.now args.at args.out.now c.requires.room (omega (arith, c.if-n-eq0.false)) c.line_length.ensures c.put_frame.ensures
