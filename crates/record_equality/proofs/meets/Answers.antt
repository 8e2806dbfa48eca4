-- `record_equality::meets` meets its contract.
use Rattle.layout.proofs.ComponentLaws.{whole-components}
use Rattle.record_equality.proofs.Rows.{meets-first}
use Rattle.record_equality.proofs.meets.Goals as goal

pub count-t-requires : goal.count-t-requires
count-t-requires c =
    record { whole = whole-components c.first_of.ensures.cells; fitting = c.test_of.ensures.fitting c.requires.right }

pub returns : goal.returns
returns c = meets-first c.args.arg c.args.x.now c.args.given.now c.is_whole.ensures c.if-is_whole.false c.first_of.ensures (rw c.test_of.ensures.parts at c.count-t.ensures)
