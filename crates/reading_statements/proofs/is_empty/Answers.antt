-- `reading_statements::is_empty` meets its contract.
use mathlib.Core.Path.{ap}
use mathlib.Core.Bool.{Bool, ◌&&◌}
use lib.Dec.{eqb}
use Rattle.reading_statements.proofs.is_empty.Goals as goal

pub returns : goal.returns
returns c = let h = c.args.head in ap (λ (b : Bool). b && eqb h.first h.op.at) c.stops.ensures
