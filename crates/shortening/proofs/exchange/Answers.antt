-- `shortening::exchange` meets its contract.
use Rattle.shortening.proofs.Exchanging.{rotated}
use Rattle.shortening.proofs.exchange.Goals as goal

pub returns : goal.returns
returns c = rotated c.requires c.rotate_left.ensures.after
