-- `filing::after_bytes` meets its contract.
use Rattle.state.proofs.Standing.{held}
use Rattle.filing.proofs.Removed.{after-lent}
use Rattle.filing.proofs.after_bytes.Goals as goal

pub returns : goal.returns
returns c = after-lent (held c.state.invariant c.state.view_is) c.requires (rw c.after_string.ensures at c.string_of.ensures.is) c.string_of.ensures.most
