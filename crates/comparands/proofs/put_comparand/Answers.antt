-- `comparands::put_comparand` meets its contract.
use Rattle.comparands.proofs.Offering.{letter-holdable, none-offered}
use Rattle.comparands.proofs.put_comparand.Goals as goal

pub put_letter-requires-clause-holdable : goal.put_letter-requires-clause-holdable
put_letter-requires-clause-holdable c = letter-holdable c.requires.holdable c.in-Indexed.is

pub returns-in-Class : goal.returns-in-Class
returns-in-Class c = none-offered c.args.table.cells.now c.args.state.now.store c.in-Class.is
