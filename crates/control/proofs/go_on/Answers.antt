-- `control::go_on` meets its contract.
use mathlib.Core.Path.{refl}
use Rattle.state.proofs.Standing.{held, stands, becomes}
use Rattle.control.proofs.Laws.{went_on}
use Rattle.control.proofs.go_on.Goals as goal

pub invariant_of-state : goal.invariant_of-state
invariant_of-state c = stands (went_on (held c.state.invariant c.state.view_is) c.requires refl)

pub returns : goal.returns
returns c = becomes (went_on (held c.state.invariant c.state.view_is) c.requires refl)
