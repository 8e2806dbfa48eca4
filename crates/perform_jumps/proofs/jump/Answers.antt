-- `perform_jumps::jump` meets its contract.
use mathlib.Core.Path.{refl}
use Rattle.performing.specs.PlaceLaws.{read-one}
use Rattle.perform_jumps.proofs.Operands.{label-asked, leading, label-led}
use Rattle.perform_jumps.proofs.jump.Goals as goal

pub label_of-label-requires : goal.label_of-label-requires
label_of-label-requires c = (label-asked (read-one c.requires c.first.ensures) refl).labelled

pub skocz-requires : goal.skocz-requires
skocz-requires c = leading (read-one c.requires c.first.ensures) refl c.label_of-label.ensures

pub returns : goal.returns
returns c = label-led (read-one c.requires c.first.ensures) refl c.label_of-label.ensures c.skocz.ensures
