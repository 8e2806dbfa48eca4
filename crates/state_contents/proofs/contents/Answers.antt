-- `state_contents::contents` meets its contract. The invariant: what the frames before the rest add stands in the row.
use Rattle.std.proofs.Common.{rules, ◌≡◌, ◌<◌, length, None}
use native.Mathlib.Omega.{arith}
use mathlib.Core.Path.{refl}
use Rattle.state_contents.proofs.Gathering.{measured, gathering-none, next, split-fits, lined, gathering-none-more, gathering-more, gathering-all}
use Rattle.state_contents.proofs.contents.Goals as goal

pub loop-rest-init : goal.loop-rest-init
loop-rest-init c =
    let a = c.args in
    (refl, gathering-none a.frames.text.now a.slot.kind a.slot.index a.row.now a.frames.sound)

pub contents_length-size-requires : goal.contents_length-size-requires
contents_length-size-requires c =
    let some : 0 < length c.loop-rest.rest.now = search rules in
    measured (next c.loop-rest.invariant.1 some).begins

pub split_at-requires : goal.split_at-requires
split_at-requires c =
    let some : 0 < length c.loop-rest.rest.now = search rules in
    split-fits c.loop-rest.invariant.1 some c.contents_length-size.ensures.is c.line_length.ensures

pub gather-requires : goal.gather-requires
gather-requires c =
    let some : 0 < length c.loop-rest.rest.now = search rules in
    let g = c.loop-rest.invariant.1 in
    (lined g some c.contents_length-size.ensures.is c.line_length.ensures c.split_at.ensures.front, g.room)

pub returns-in_err-n : goal.returns-in_err-n
returns-in_err-n c =
    let some : 0 < length c.loop-rest.rest.now = search rules in
    let e : c.from_residual.result ≡ None = search rules in
    rw e (gathering-none-more c.loop-rest.invariant.1 some c.contents_length-size.ensures.is c.line_length.ensures c.split_at.ensures.front c.gather.ensures (omega arith) c.in_err-n.was)

pub loop-rest-preserved : goal.loop-rest-preserved
loop-rest-preserved c =
    let some : 0 < length c.loop-rest.rest.now = search rules in
    let loop = c.loop-rest in
    (omega (arith, loop.invariant.0), gathering-more loop.invariant.1 some c.contents_length-size.ensures.is c.line_length.ensures c.split_at.ensures.front c.gather.ensures (omega arith) c.in_ok-n.was c.split_at.ensures.back)

pub returns : goal.returns
returns c =
    let none : length c.loop-rest.rest.now ≡ 0 = search rules in
    gathering-all c.loop-rest.invariant.1 none
