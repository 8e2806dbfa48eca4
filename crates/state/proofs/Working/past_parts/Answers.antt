-- `Working::past_parts` meets its contract.
use Rattle.state.proofs.Autos.{left}
use Rattle.state.proofs.Working.past_parts.Goals as goal

pub returns-then-source : goal.returns-then-source
returns-then-source c = rw c.if-source.true c.drop_parts.ensures

pub returns-else-source : goal.returns-else-source
returns-else-source c = left c.args.source.i c.args.amount.parts c.if-source.false c.stands.ensures
