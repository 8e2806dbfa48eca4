-- `state_contents::lay_strings` meets its contract. The invariant: the first j strings are laid, if all have room.
use native.Mathlib.Omega.{arith}
use mathlib.Core.Path.{◌∙◌}
use Rattle.state_contents.proofs.Laying.{laying-none, laying-more, laying-all}
use Rattle.state_contents.proofs.lay_strings.Goals as goal

pub loop-j-init : goal.loop-j-init
loop-j-init c =
    let a = c.args in
    let pre = c.requires in
    (omega arith, laying-none a.frames.text.now a.m.now pre)

pub string-s-requires : goal.string-s-requires
string-s-requires c = omega arith

pub slice_bounds-put_string-count : goal.slice_bounds-put_string-count
slice_bounds-put_string-count c = c.string-s.ensures.order

pub slice_bounds-put_string-start : goal.slice_bounds-put_string-start
slice_bounds-put_string-start c = c.string-s.ensures.order

pub slice_bounds-put_string-end : goal.slice_bounds-put_string-end
slice_bounds-put_string-end c = omega (arith, c.string-s.ensures.within)

pub put_string-at-requires : goal.put_string-at-requires
put_string-at-requires c =
    let laid = c.loop-j.invariant.1 in
    record { all = laid.long; one = (omega arith); place = laid.place }

pub loop-j-preserved : goal.loop-j-preserved
loop-j-preserved c =
    let loop = c.loop-j in
    let string = c.string-s in
    let put = c.put_string-at in
    let laid = laying-more c.requires loop.invariant.1 (omega arith) string.ensures.is put.ensures (omega arith) in
    ((omega arith) ∙ loop.invariant.0, laid)

pub returns : goal.returns
returns c = laying-all c.loop-j.invariant.1 (omega arith)
