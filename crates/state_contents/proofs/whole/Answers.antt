-- `state_contents::whole` meets its contract.
use Rattle.std.proofs.Common.{rules}
use Rattle.state_contents.proofs.Finding.{whole-all}
use Rattle.state_contents.proofs.whole.Goals as goal

pub returns : goal.returns
returns c = whole-all c.contents.ensures (search rules)
