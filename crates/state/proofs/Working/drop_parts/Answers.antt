-- `Working::drop_parts` meets its contract.
use Rattle.state.proofs.Standing.{held, stands, becomes}
use Rattle.state.proofs.Expressions.{parts-droppable, parts-lowerable, parts-dropped}
use Rattle.state.proofs.Working.drop_parts.Goals as goal

pub drop_front-requires : goal.drop_front-requires
drop_front-requires c = parts-droppable (held c.self.invariant c.self.view_is) c.requires

pub lower-requires : goal.lower-requires
lower-requires c = parts-lowerable (held c.self.invariant c.self.view_is) c.requires

pub invariant_of-self : goal.invariant_of-self
invariant_of-self c = stands (parts-dropped (held c.self.invariant c.self.view_is) c.requires c.drop_front.ensures c.lower.ensures)

pub returns : goal.returns
returns c = becomes (parts-dropped (held c.self.invariant c.self.view_is) c.requires c.drop_front.ensures c.lower.ensures)
