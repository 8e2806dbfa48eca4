-- `writing::clear_table` meets its contract.
use Rattle.writing.proofs.Rooms.{cleared-holds}
use Rattle.writing.proofs.clear_table.Goals as goal

pub returns : goal.returns
returns c =
    cleared-holds c.args.table.now c.clear_cells.new.table (c.requires) c.clear_cells.ensures
