-- `matching::among` meets its contract.
use mathlib.Core.Path.{◌≡◌}
use lib.ListN.{length}
use Rattle.characters.specs.Below.Lists.{any}
use Rattle.components.specs.Below.LanguageValues.{same}
use Rattle.components.specs.Below.LayoutBounds.{WholeComponents}
use Rattle.components.specs.Below.Components.{component_in, components_in}
use Rattle.matching.proofs.among.Given as goal

abbrev pub invariant-loop-y : goal.invariant-loop-y
invariant-loop-y l = WholeComponents l.left × (any (same (component_in l.x)) (components_in l.given) ≡ any (same (component_in l.x)) (components_in l.left))

abbrev pub decreases-loop-y : goal.decreases-loop-y
decreases-loop-y l = length l.left
