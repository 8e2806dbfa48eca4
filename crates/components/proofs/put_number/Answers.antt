-- `components::put_number` meets its contract.
use Rattle.cells.specs.Below.Components.{component_bytes}
use Rattle.components.proofs.Fronts.{code-uncode}
use Rattle.components.proofs.put_number.Goals as goal

pub returns : goal.returns
unfolding component_bytes
returns c = rw (code-uncode c.args.code) c.put_short.ensures
