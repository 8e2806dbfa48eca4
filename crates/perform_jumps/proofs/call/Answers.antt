-- `perform_jumps::call` meets its contract.
use mathlib.Core.Path.{refl}
use Rattle.performing.specs.PlaceLaws.{read-one}
use Rattle.perform_jumps.proofs.Operands.{label-asked, turning, label-led}
use Rattle.perform_jumps.proofs.call.Goals as goal

pub label_of-label-requires : goal.label_of-label-requires
label_of-label-requires c = (label-asked (read-one c.requires c.first.ensures) refl).labelled

pub wykonaj-requires : goal.wykonaj-requires
wykonaj-requires c = turning (read-one c.requires c.first.ensures) refl c.label_of-label.ensures tt

pub returns : goal.returns
returns c = label-led (read-one c.requires c.first.ensures) refl c.label_of-label.ensures c.wykonaj.ensures
