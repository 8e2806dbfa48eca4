-- `records::last_address` meets its contract.
use Prim.Native.Nat.{◌-◌}
use native.Mathlib.Omega.{arith}
use lib.ListN.{length}
use borrow.Author.Tests.{true-eqb, false-eqb}
use Rattle.std.proofs.lemmas.List.{take_rest}
use Rattle.records.proofs.Lasts.{last-at, last-some, no_last, two-room}
use Rattle.records.proofs.last_address.Goals as goal

pub returns-then-is_empty : goal.returns-then-is_empty
returns-then-is_empty c = no_last c.args.s.now (true-eqb (length c.args.s.now) 0 c.if-is_empty.ensures)

pub overflow_sub-n : goal.overflow_sub-n
overflow_sub-n c =
    let z = false-eqb (length c.args.s.now) 0 c.if-is_empty.ensures in
    omega (arith, two-room c.requires (omega (arith, z)))

pub two_at-k-requires : goal.two_at-k-requires
two_at-k-requires c =
    let z = false-eqb (length c.args.s.now) 0 c.if-is_empty.ensures in
    omega (arith, two-room c.requires (omega (arith, z)))

pub overflow_sub-n-2 : goal.overflow_sub-n-2
overflow_sub-n-2 c =
    let z = false-eqb (length c.args.s.now) 0 c.if-is_empty.ensures in
    two-room c.requires (omega (arith, z))

pub overflow_sub-n-3 : goal.overflow_sub-n-3
overflow_sub-n-3 c =
    let z = false-eqb (length c.args.s.now) 0 c.if-is_empty.ensures in
    omega (arith, (last-at c.requires (omega (arith, z)) c.two_at-k.ensures.is).fits)

pub address_of-requires : goal.address_of-requires
address_of-requires c =
    let z = false-eqb (length c.args.s.now) 0 c.if-is_empty.ensures in
    rw (take_rest c.args.s.now (length c.args.s.now - 7 - c.two_at-k.result)) (last-at c.requires (omega (arith, z)) c.two_at-k.ensures.is).starts

pub returns : goal.returns
returns c =
    let z = false-eqb (length c.args.s.now) 0 c.if-is_empty.ensures in
    last-some c.requires (omega (arith, z)) c.two_at-k.ensures.is (rw (take_rest c.args.s.now (length c.args.s.now - 7 - c.two_at-k.result)) at c.address_of.ensures)
