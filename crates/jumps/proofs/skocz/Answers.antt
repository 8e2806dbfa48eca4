-- `jumps::skocz` meets its contract.
use Rattle.jumps.proofs.Rows.{target_is, skocz-done}
use Rattle.jumps.proofs.skocz.Goals as goal

pub returns : goal.returns
returns c = skocz-done c.args.table.cells.now c.args.label (target_is c.requires c.target.ensures) c.go_to.ensures
