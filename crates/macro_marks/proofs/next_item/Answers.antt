-- `macro_marks::next_item` meets its contract.
use Rattle.macro_marks.proofs.Seeking.{item-next}
use Rattle.macro_marks.proofs.next_item.Goals as goal

pub returns : goal.returns
returns c = rw (c.then_some.ensures, c.is_some.ensures) (item-next c.item_at-t.ensures)
