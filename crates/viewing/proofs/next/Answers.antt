-- `viewing::next` meets its contract.
use Rattle.viewing.proofs.Strings.{next-told}
use Rattle.viewing.proofs.next.Goals as goal

pub returns : goal.returns
returns c = next-told c.requires c.three_at.ensures
