-- `Working::write_parts` meets its contract.
use mathlib.Core.Bool.{true}
use Rattle.state.proofs.Standing.{held, stands, becomes}
use Rattle.state.proofs.Expressions.{parts-pushable, parts-raisable, parts-written}
use Rattle.state.proofs.Working.write_parts.Goals as goal

pub push-requires : goal.push-requires
push-requires c = parts-pushable (held c.self.invariant c.self.view_is) c.requires true

pub raise-requires : goal.raise-requires
raise-requires c = parts-raisable (held c.self.invariant c.self.view_is) c.requires true

pub invariant_of-self : goal.invariant_of-self
invariant_of-self c = stands (parts-written (held c.self.invariant c.self.view_is) c.requires c.args.target.at_end c.push.ensures c.raise.ensures)

pub returns : goal.returns
returns c = becomes (parts-written (held c.self.invariant c.self.view_is) c.requires c.args.target.at_end c.push.ensures c.raise.ensures)
