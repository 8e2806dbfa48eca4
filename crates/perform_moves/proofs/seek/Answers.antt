-- `perform_moves::seek` meets its contract.
use Rattle.performing.specs.PlaceLaws.{read-one, read-two}
use Rattle.perform_moves.proofs.Operands.{seek-from, seek-by, seekable, sought}
use Rattle.perform_moves.proofs.seek.Goals as goal

pub source_of-source-requires : goal.source_of-source-requires
source_of-source-requires c = seek-from (read-one c.requires c.first.ensures)

pub switch_of-switch-requires : goal.switch_of-switch-requires
switch_of-switch-requires c = (seek-by (read-two c.requires c.first.ensures c.second.ensures)).switched

pub szukaj-requires : goal.szukaj-requires
szukaj-requires c = seekable (read-two c.requires c.first.ensures c.second.ensures) c.source_of-source.ensures c.switch_of-switch.ensures

pub returns : goal.returns
returns c = sought (read-two c.requires c.first.ensures c.second.ensures) c.source_of-source.ensures c.switch_of-switch.ensures c.szukaj.ensures
