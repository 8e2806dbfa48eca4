-- `Working::set_plus` meets its contract.
use mathlib.Core.Path.{refl}
use Rattle.state.proofs.Standing.{held, stands, becomes}
use Rattle.state.proofs.Beside.{plus-set}
use Rattle.state.proofs.Working.set_plus.Goals as goal

pub invariant_of-self : goal.invariant_of-self
invariant_of-self c = stands (plus-set (held c.self.invariant c.self.view_is) c.args.plus refl)

pub returns : goal.returns
returns c = becomes (plus-set (held c.self.invariant c.self.view_is) c.args.plus refl)
