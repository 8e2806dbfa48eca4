-- `store::string_of` meets its contract.
use Rattle.store.proofs.Laws.{string-told}
use Rattle.store.proofs.string_of.Goals as goal

pub returns : goal.returns
returns c = let pre = c.requires in string-told pre.fine pre.index c.string_at.ensures
