-- `linking::label_place` meets its contract.
use Rattle.linking.proofs.label_place.Goals as goal

pub returns : goal.returns
returns c = rw c.word_of.ensures at c.find_label.ensures
