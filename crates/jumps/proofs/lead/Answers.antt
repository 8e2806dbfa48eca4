-- `jumps::lead` meets its contract.
use Rattle.jumps.proofs.Leading.{led-jump}
use Rattle.jumps.proofs.lead.Goals as goal

pub returns-in-Jump : goal.returns-in-Jump
returns-in-Jump c = rw c.in-Jump.is (led-jump c.go_to.ensures)
