-- `state_saving::put_strings` meets its contract. The invariant: the frames of the first i strings are written.
use native.Mathlib.Omega.{arith}
use Prim.Native.Nat.{◌+◌, ◌<◌}
use lib.ListN.{length}
use Rattle.state_frames.specs.Frames.{framed}
use Rattle.state_lines.specs.Kinds.{kind_number}
use Rattle.state_saving.specs.Saving.{strings_from, FrameFits}
use Rattle.state_saving.proofs.Appending.{writing-none, writing-room, writing-next, writing-end}
use Rattle.state_saving.proofs.Contents.{length-strings, string-named, string-met}
use Rattle.state_saving.proofs.put_strings.Goals as goal

pub loop-i-init : goal.loop-i-init
loop-i-init c =
    let args = c.args in
    writing-none (kind_number args.kind) (strings_from args.memory.now args.first args.count) c.requires.room

pub string-v-requires : goal.string-v-requires
string-v-requires c = string-named c.requires (omega arith)

pub put_some-at-requires : goal.put_some-at-requires
put_some-at-requires c =
    let args = c.args in
    let pre = c.requires in
    let h : c.loop-i.i < c.args.count = omega arith in
    let s = c.string-v.ensures in
    let fits : FrameFits (framed (kind_number args.kind) (c.loop-i.i + 1) c.string-v.result.now) c.loop-i.at (length c.loop-i.out) =
    record {
      room = writing-room (kind_number args.kind) (strings_from args.memory.now args.first args.count) pre.room c.loop-i.invariant (omega (arith, length-strings pre, h)) (string-met pre h s);
      index_below = omega (arith, pre.within, h);
      short = s.small;
    } in
    rw (c.of.ensures.kind, c.of.ensures.index) fits

pub loop-i-preserved : goal.loop-i-preserved
loop-i-preserved c =
    let args = c.args in
    let pre = c.requires in
    let h : c.loop-i.i < c.args.count = omega arith in
    writing-next (kind_number args.kind) (strings_from args.memory.now args.first args.count) pre.room c.loop-i.invariant (omega (arith, length-strings pre, h)) (string-met pre h c.string-v.ensures)
    (rw (c.of.ensures.kind, c.of.ensures.index) at c.put_some-at.ensures)

pub returns : goal.returns
returns c =
    let args = c.args in
    let pre = c.requires in
    writing-end (kind_number args.kind) (strings_from args.memory.now args.first args.count) pre.room c.loop-i.invariant (omega (arith, length-strings pre))
