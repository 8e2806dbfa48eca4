-- `filing::before_bytes` meets its contract.
use Rattle.state.proofs.Standing.{held}
use Rattle.filing.proofs.Removed.{before_lent}
use Rattle.filing.proofs.before_bytes.Goals as goal

pub returns : goal.returns
returns c = before_lent (held c.state.invariant c.state.view_is) c.requires (rw c.before_string.ensures at c.string_of.ensures.is) c.string_of.ensures.most
