-- `jumps::wykonaj` meets its contract.
use Rattle.jumps.proofs.Rows.{target_is, wykonaj-goes}
use Rattle.jumps.proofs.wykonaj.Goals as goal

pub returns : goal.returns
returns c = wykonaj-goes c.args.table.cells.now c.args.label c.stands.ensures (target_is c.requires.label c.target.ensures) c.call.ensures
