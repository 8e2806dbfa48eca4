-- `state_restoring::fill_totals` meets its contract.
use Rattle.state_restoring.proofs.Totals.{summed, unsummed, totalled}
use Rattle.state_restoring.proofs.fill_totals.Goals as goal

pub returns-in_default : goal.returns-in_default
returns-in_default c = unsummed c.requires c.totals_of.ensures c.in_default.is

pub returns : goal.returns
returns c = totalled c.requires (summed c.totals_of.ensures c.in-Some.is) c.put_three.ensures c.put_three-2.ensures c.put_three-3.ensures
