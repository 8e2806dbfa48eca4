-- `Working::last` meets its contract.
use mathlib.Core.Path.{refl}
use Rattle.state.proofs.Standing.{held, told}
use Rattle.state.proofs.Working.last.Goals as goal

pub returns : goal.returns
returns c = told (held c.self.invariant c.self.view_is) refl
