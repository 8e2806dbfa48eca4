-- `control::go_to` meets its contract.
use mathlib.Core.Path.{refl}
use Rattle.state.proofs.Standing.{held, stands, becomes}
use Rattle.control.proofs.Laws.{jumped}
use Rattle.control.proofs.go_to.Goals as goal

pub invariant_of-state : goal.invariant_of-state
invariant_of-state c = stands (jumped (held c.state.invariant c.state.view_is) c.requires refl)

pub returns : goal.returns
returns c = becomes (jumped (held c.state.invariant c.state.view_is) c.requires refl)
