-- `Working::exchange_exprs` meets its contract.
use Rattle.state.proofs.Standing.{held, stands, becomes}
use Rattle.state.proofs.Exchanges.{exprs-swapped}
use Rattle.state.proofs.Working.exchange_exprs.Goals as goal

pub invariant_of-self : goal.invariant_of-self
invariant_of-self c = stands (exprs-swapped (held c.self.invariant c.self.view_is) c.requires.first c.requires.second c.exchange.ensures)

pub returns : goal.returns
returns c = becomes (exprs-swapped (held c.self.invariant c.self.view_is) c.requires.first c.requires.second c.exchange.ensures)
