-- `components::split_first` meets its contract.
use native.Mathlib.Omega.{arith}
use lib.ListN.{length}
use borrow.Author.Tests.{false-eqb}
use Rattle.components.proofs.Walks.{front, front-size}
use Rattle.components.proofs.split_first.Goals as goal

pub split_at-requires : goal.split_at-requires
split_at-requires c =
    let z = false-eqb (length c.args.s.now) 0 c.if-is_empty.ensures in
    front-size c.requires (omega (arith, z)) c.size_by.ensures

pub returns : goal.returns
returns c =
    let z = false-eqb (length c.args.s.now) 0 c.if-is_empty.ensures in
    rw (c.split_at.ensures.front, c.split_at.ensures.back) (front c.requires (omega (arith, z)) c.size_by.ensures)
