-- `perform_equality::relate_record` meets its contract.
use Rattle.performing.specs.PlaceLaws.{read-one, read-two}
use Rattle.perform_equality.proofs.Operands.{record-named, record-relatable, record-related}
use Rattle.perform_equality.proofs.relate_record.Goals as goal

pub index_of-index-requires : goal.index_of-index-requires
index_of-index-requires c = (record-named (read-one c.requires c.first.ensures)).lettered

pub rz-requires : goal.rz-requires
rz-requires c = record-relatable (read-two c.requires c.first.ensures c.second.ensures) c.index_of-index.ensures

pub returns : goal.returns
returns c = record-related (read-two c.requires c.first.ensures c.second.ensures) c.index_of-index.ensures c.rz.ensures
