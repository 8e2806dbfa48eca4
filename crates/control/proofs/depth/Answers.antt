-- `control::depth` meets its contract.
use Rattle.state.proofs.Standing.{held}
use Rattle.control.proofs.Laws.{deep}
use Rattle.control.proofs.depth.Goals as goal

pub returns : goal.returns
returns c = deep (held c.state.invariant c.state.view_is) c.len_of.ensures
