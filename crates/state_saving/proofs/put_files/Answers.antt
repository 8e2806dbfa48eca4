-- `state_saving::put_files` meets its contract. The invariant: the frames of the first i files are written.
use native.Mathlib.Omega.{arith}
use Prim.Native.Nat.{◌<◌}
use Rattle.language.specs.Limits as limit
use Rattle.state_frames.specs.Frames.{file}
use Rattle.state_saving.specs.Saving.{files_from}
use Rattle.state_saving.proofs.Appending.{writing-none, writing-room, writing-next, writing-end}
use Rattle.state_saving.proofs.Contents.{length-files, file-met, file-short}
use Rattle.state_saving.proofs.put_files.Goals as goal

pub loop-i-init : goal.loop-i-init
loop-i-init c = writing-none file (files_from c.args.memory.now) c.requires.room

pub put_records-at-requires : goal.put_records-at-requires
put_records-at-requires c =
    let m = c.args.memory.now in
    let pre = c.requires in
    let h : c.loop-i.i < limit.files = omega arith in
    let b = c.string-before.ensures in
    let a = c.string-after.ensures in
    record {
      room = writing-room file (files_from m) pre.room c.loop-i.invariant (omega (arith, length-files m, h)) (file-met pre h b a);
      index_below = omega arith;
      short = file-short pre h b a;
    }

pub loop-i-preserved : goal.loop-i-preserved
loop-i-preserved c =
    let m = c.args.memory.now in
    let pre = c.requires in
    let h : c.loop-i.i < limit.files = omega arith in
    writing-next file (files_from m) pre.room c.loop-i.invariant (omega (arith, length-files m, h)) (file-met pre h c.string-before.ensures c.string-after.ensures) c.put_records-at.ensures

pub returns : goal.returns
returns c =
    let m = c.args.memory.now in
    writing-end file (files_from m) c.requires.room c.loop-i.invariant (omega (arith, length-files m))
