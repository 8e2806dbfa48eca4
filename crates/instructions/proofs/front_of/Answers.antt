-- `instructions::front_of` meets its contract.
use lib.ListN.{length}
use borrow.Author.Tests.{true-eqb, false-eqb}
use Rattle.components.specs.Parts.{kind_number}
use Rattle.components.proofs.KindLaws.{other_kind, right_kind}
use Rattle.components.proofs.FirstLaws.{leading}
use Rattle.instructions.proofs.Fronts.{none-front, other-front, right-front}
use Rattle.instructions.proofs.front_of.Goals as goal

pub returns-then-is_empty : goal.returns-then-is_empty
returns-then-is_empty c = none-front c.expr_bytes-x.ensures (kind_number c.args.kind) (true-eqb (length c.expr_bytes-x.result.now) 0 c.if-is_empty.ensures)

pub kind_of-requires : goal.kind_of-requires
kind_of-requires c = leading c.expr_bytes-x.ensures.whole (false-eqb (length c.expr_bytes-x.result.now) 0 c.if-is_empty.ensures)

pub returns-then-ne : goal.returns-then-ne
returns-then-ne c =
    let z = false-eqb (length c.expr_bytes-x.result.now) 0 c.if-is_empty.ensures in
    other-front c.expr_bytes-x.ensures (kind_number c.args.kind) z (other_kind _ c.args.kind c.kind_of.ensures c.ne.ensures c.if-ne.true)

pub returns : goal.returns
returns c =
    let z = false-eqb (length c.expr_bytes-x.result.now) 0 c.if-is_empty.ensures in
    right-front _ c.expr_bytes-x.ensures (kind_number c.args.kind) z (right_kind _ c.args.kind c.kind_of.ensures c.ne.ensures c.if-ne.false)
