-- `state_saving::put_records` meets its contract.
use native.Mathlib.Omega.{arith}
use Rattle.state_frames.specs.Frames.{file}
use Rattle.state_frames.specs.Saved.{file_contents}
use Rattle.state_saving.proofs.Contents.{empty-put, line-put, length-contents, no-contents, file-room}
use Rattle.state_saving.proofs.put_records.Goals as goal

pub returns-then-n-eq0 : goal.returns-then-n-eq0
returns-then-n-eq0 c =
    let args = c.args in
    let b = args.before.now in
    let a = args.after.now in
    empty-put file args.index (file_contents b a) args.at args.out.now c.requires.room (no-contents b a c.if-n-eq0.true)

pub put_file-requires : goal.put_file-requires
put_file-requires c = file-room c.requires (omega (arith, c.if-n-eq0.false))

pub returns : goal.returns
returns c =
    let args = c.args in
    let b = args.before.now in
    let a = args.after.now in
    let n = length-contents b a (omega (arith, c.if-n-eq0.false)) in
    line-put file args.index (file_contents b a) args.at args.out.now c.requires.room (omega (arith, n)) (omega (arith, n, c.line_length.ensures)) c.put_file.ensures
