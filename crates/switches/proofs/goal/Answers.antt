-- `switches::goal` meets its contract.
use Rattle.switches.proofs.Fronts.{leads-to}
use Rattle.switches.proofs.goal.Goals as goal

pub returns : goal.returns
returns c = leads-to c.requires c.switch_first.ensures c.entry_label.ensures c.target.ensures
