-- `filing::exchange_files` meets its contract.
use Rattle.state.proofs.Standing.{held, stands, becomes}
use Rattle.filing.proofs.Swapped.{files-swapped}
use Rattle.filing.proofs.exchange_files.Goals as goal

pub invariant_of-state : goal.invariant_of-state
invariant_of-state c = stands (files-swapped (held c.state.invariant c.state.view_is) c.requires.first c.requires.second (rw (c.before_string.ensures, c.before_string-2.ensures) at c.exchange.ensures) (rw (c.after_string.ensures, c.after_string-2.ensures) at c.exchange-2.ensures))

pub returns : goal.returns
returns c = becomes (files-swapped (held c.state.invariant c.state.view_is) c.requires.first c.requires.second (rw (c.before_string.ensures, c.before_string-2.ensures) at c.exchange.ensures) (rw (c.after_string.ensures, c.after_string-2.ensures) at c.exchange-2.ensures))
