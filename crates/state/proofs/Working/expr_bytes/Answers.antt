-- `Working::expr_bytes` meets its contract.
use Rattle.state.proofs.Standing.{held, expr-lent}
use Rattle.state.proofs.Working.expr_bytes.Goals as goal

pub returns : goal.returns
returns c = expr-lent (held c.self.invariant c.self.view_is) c.requires c.string_of.ensures.is c.string_of.ensures.most
