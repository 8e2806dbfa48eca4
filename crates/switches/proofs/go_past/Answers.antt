-- `switches::go_past` meets its contract.
use Rattle.switches.proofs.Rows.{kept-store}
use Rattle.switches.proofs.go_past.Goals as goal

pub returns-in-Jump : goal.returns-in-Jump
returns-in-Jump c = rw c.in-Jump.is (kept-store c.go_on.ensures)
