-- `macro_reading::is_bracket` meets its contract.
use mathlib.Core.Path.{refl}
use mathlib.Core.List.{[]}
use Rattle.macro_reading.proofs.is_bracket.Goals as goal

pub returns : goal.returns
returns c = rw (c.is_mark.ensures [], c.is_mark-2.ensures []) refl
