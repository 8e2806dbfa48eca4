-- `perform_moves::join` meets its contract.
use mathlib.Core.Path.{refl}
use Rattle.performing.specs.PlaceLaws.{read-one, read-two}
use Rattle.perform_moves.proofs.Operands.{pair-from, joinable, pair-done}
use Rattle.perform_moves.proofs.join.Goals as goal

pub source_of-source-requires : goal.source_of-source-requires
source_of-source-requires c = pair-from (read-one c.requires c.first.ensures) refl

pub zbij-requires : goal.zbij-requires
zbij-requires c = joinable (read-two c.requires c.first.ensures c.second.ensures) refl c.source_of-source.ensures

pub returns : goal.returns
returns c = pair-done (read-two c.requires c.first.ensures c.second.ensures) refl c.source_of-source.ensures c.zbij.ensures
