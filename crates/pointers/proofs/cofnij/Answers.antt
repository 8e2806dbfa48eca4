-- `pointers::cofnij` meets its contract.
use Rattle.pointers.proofs.Rows.{front-pointable, cofnij-done}
use Rattle.pointers.proofs.cofnij.Goals as goal

pub point-requires-clause-pointable : goal.point-requires-clause-pointable
point-requires-clause-pointable c = front-pointable c.requires

pub returns : goal.returns
returns c = cofnij-done c.args.i c.point.ensures
