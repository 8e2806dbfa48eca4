-- `table::letter_by` meets its contract.
use mathlib.Core.Path.{refl}
use Rattle.table.proofs.Decode.{placed_letter}
use Rattle.table.proofs.letter_by.Goals as goal

pub returns : goal.returns
returns c = rw c.unwrap_or.ensures (placed_letter _ _ c.try_from.result c.try_from.ensures refl)
