-- `perform_moves::send` meets its contract.
use Rattle.performing.specs.PlaceLaws.{read-one, read-two, read-three}
use Rattle.perform_moves.proofs.Operands.{send-from, send-to, sendable, sent}
use Rattle.perform_moves.proofs.send.Goals as goal

pub source_of-source-requires : goal.source_of-source-requires
source_of-source-requires c = send-from (read-one c.requires c.first.ensures)

pub target_of-target-requires : goal.target_of-target-requires
target_of-target-requires c = send-to (read-two c.requires c.first.ensures c.second.ensures)

pub przeslij-requires : goal.przeslij-requires
przeslij-requires c = sendable (read-three c.requires c.first.ensures c.second.ensures c.third.ensures) c.source_of-source.ensures c.target_of-target.ensures

pub returns : goal.returns
returns c = sent (read-three c.requires c.first.ensures c.second.ensures c.third.ensures) c.source_of-source.ensures c.target_of-target.ensures c.przeslij.ensures
