-- `characters::is_known` meets its contract.
use Rattle.characters.proofs.Tables.{known_by}
use Rattle.characters.proofs.is_known.Goals as goal

pub returns : goal.returns
returns c = rw c.from.ensures (known_by c.args.b c.ranges.b.fits)
