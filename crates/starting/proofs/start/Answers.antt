-- `starting::start` meets its contract.
use Rattle.starting.proofs.Laws.{started-is}
use Rattle.starting.proofs.start.Goals as goal

pub returns : goal.returns
returns c = started-is c.args.state.now (c.requires) c.clear.ensures
