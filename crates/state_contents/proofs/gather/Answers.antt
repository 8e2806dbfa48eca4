-- `state_contents::gather` meets its contract.
use Rattle.std.proofs.Common.{rules, ◌≡◌, None}
use native.Mathlib.Omega.{arith}
use Rattle.state_contents.proofs.Gathering.{measured, size-there, line-within, added-none, no_room, cut-there, got-none, got-one}
use Rattle.state_contents.proofs.gather.Goals as goal

pub returns-then-not-is_of : goal.returns-then-not-is_of
returns-then-not-is_of c = added-none c.is_of.ensures c.requires.1 c.if-not-is_of.true

pub contents_length-size-requires : goal.contents_length-size-requires
contents_length-size-requires c = measured c.requires.0.begins

pub returns-then-row-n : goal.returns-then-row-n
returns-then-row-n c = no_room c.is_of.ensures c.if-not-is_of.false c.contents_length-size.ensures.is c.if-row-n.true

pub slice_bounds-digits-end : goal.slice_bounds-digits-end
slice_bounds-digits-end c =
    let b = c.requires.0.begins in
    omega (arith, line-within b, size-there b, c.contents_length-size.ensures.is)

pub get_bytes-requires : goal.get_bytes-requires
get_bytes-requires c =
    let b = c.requires.0.begins in
    record { fits = omega (arith, c.if-row-n.false, line-within b, size-there b, c.contents_length-size.ensures.is); even = omega (arith, line-within b, size-there b, c.contents_length-size.ensures.is) }

pub returns-in_err-get_bytes : goal.returns-in_err-get_bytes
returns-in_err-get_bytes c =
    let e : c.from_residual.result ≡ None = search rules in
    rw e (got-none c.is_of.ensures c.if-not-is_of.false c.contents_length-size.ensures.is (cut-there c.args.line.now c.contents_length-size.result) c.get_bytes.ensures c.in_err-get_bytes.was)

pub returns : goal.returns
returns c = got-one c.is_of.ensures c.if-not-is_of.false c.contents_length-size.ensures.is (cut-there c.args.line.now c.contents_length-size.result) c.get_bytes.ensures c.if-row-n.false
