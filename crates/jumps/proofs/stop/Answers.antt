-- `jumps::stop` meets its contract.
use Rattle.jumps.proofs.Rows.{stop-stops}
use Rattle.jumps.proofs.stop.Goals as goal

pub returns : goal.returns
returns c = stop-stops c.stands.ensures
