-- `class_running::show` meets its contract.
use Rattle.class_running.proofs.Seating.{shown-so}
use mathlib.Core.Path.{refl}
use Rattle.class_running.proofs.show.Goals as goal

pub returns : goal.returns
returns c = shown-so c.output-q.ensures c.put.ensures refl
