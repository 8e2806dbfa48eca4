-- `Working::minus_unless` meets its contract.
use mathlib.Core.Path.{refl}
use Rattle.state.proofs.Standing.{held, stands, becomes, stood}
use Rattle.state.proofs.Beside.{plus-lost}
use Rattle.state.proofs.Autos.{kept}
use Rattle.state.proofs.Working.minus_unless.Goals as goal

pub invariant_of-self : goal.invariant_of-self
invariant_of-self c = stands (plus-lost (held c.self.invariant c.self.view_is) c.if-not-reached.true refl)

pub returns-then-not-reached : goal.returns-then-not-reached
returns-then-not-reached c = becomes (plus-lost (held c.self.invariant c.self.view_is) c.if-not-reached.true refl)

pub returns-else-not-reached : goal.returns-else-not-reached
returns-else-not-reached c = kept (stood c.self.invariant c.self.view_is) c.if-not-reached.false
