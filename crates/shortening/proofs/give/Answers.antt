-- `shortening::give` meets its contract.
use mathlib.Core.Path.{refl}
use Rattle.shortening.proofs.Giving.{front-copied, given}
use Rattle.shortening.proofs.give.Goals as goal

pub returns : goal.returns
returns c = given c.load-loaded.ensures (front-copied c.args.out.now c.copy_from_slice.ensures.after) refl refl
