-- `perform_moves::print` meets its contract.
use Rattle.performing.specs.PlaceLaws.{read-one, read-two, read-three}
use Rattle.perform_moves.proofs.Operands.{print-from, print-to, printable, printed}
use Rattle.perform_moves.proofs.print.Goals as goal

pub source_of-source-requires : goal.source_of-source-requires
source_of-source-requires c = print-from (read-one c.requires c.first.ensures)

pub index_of-j-requires : goal.index_of-j-requires
index_of-j-requires c = (print-to (read-two c.requires c.first.ensures c.second.ensures)).lettered

pub pisz-requires : goal.pisz-requires
pisz-requires c = printable (read-three c.requires c.first.ensures c.second.ensures c.third.ensures) c.source_of-source.ensures c.index_of-j.ensures

pub returns : goal.returns
returns c = printed (read-three c.requires c.first.ensures c.second.ensures c.third.ensures) c.source_of-source.ensures c.index_of-j.ensures c.pisz.ensures
