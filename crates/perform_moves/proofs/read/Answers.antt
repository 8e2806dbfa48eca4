-- `perform_moves::read` meets its contract.
use Rattle.performing.specs.PlaceLaws.{performing-one, performing-two, performing-three}
use Rattle.perform_moves.proofs.Operands.{read_from, read-to, readable, have-read}
use Rattle.perform_moves.proofs.read.Goals as goal

pub index_of-index-requires : goal.index_of-index-requires
index_of-index-requires c = (read_from (performing-one c.requires c.first.ensures)).lettered

pub target_of-target-requires : goal.target_of-target-requires
target_of-target-requires c = read-to (performing-two c.requires c.first.ensures c.second.ensures)

pub czytaj-requires : goal.czytaj-requires
czytaj-requires c = readable (performing-three c.requires c.first.ensures c.second.ensures c.third.ensures) c.index_of-index.ensures c.target_of-target.ensures

pub returns : goal.returns
returns c = have-read (performing-three c.requires c.first.ensures c.second.ensures c.third.ensures) c.index_of-index.ensures c.target_of-target.ensures c.czytaj.ensures
