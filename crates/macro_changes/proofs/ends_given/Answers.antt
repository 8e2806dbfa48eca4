-- `macro_changes::ends_given` meets its contract.
use mathlib.Core.Path.{refl}
use Rattle.macro_changes.proofs.ends_given.Goals as goal

pub returns : goal.returns
returns c = rw (c.closes.ensures, c.is.ensures) refl
