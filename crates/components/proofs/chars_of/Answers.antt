-- `components::chars_of` meets its contract.
use native.Mathlib.Omega.{arith}
use Rattle.components.proofs.Fronts.{lent-chars}
use Rattle.components.proofs.chars_of.Goals as goal

pub returns : goal.returns
returns c = lent-chars c.args.x.now (record { is = c.from.ensures; most = omega arith })
