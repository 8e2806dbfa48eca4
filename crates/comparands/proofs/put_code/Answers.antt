-- `comparands::put_code` meets its contract.
use Rattle.comparands.proofs.Offering.{code-offered}
use Rattle.comparands.proofs.put_code.Goals as goal

pub returns : goal.returns
returns c = code-offered c.args.code c.requires.most c.args.given.now c.put_number.ensures c.requires.room
