-- `components::put_address` meets its contract.
use Rattle.cells.specs.Below.Components.{component_bytes}
use Rattle.components.proofs.put_address.Goals as goal

pub returns : goal.returns
unfolding component_bytes
returns c = c.put_short.ensures
