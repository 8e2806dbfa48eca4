-- `progress::waiting_after` meets its contract.
use mathlib.Core.Path.{refl, sym, ◌∙◌}
use Rattle.progress.proofs.waiting_after.Goals as goal

pub returns-then-stops : goal.returns-then-stops
returns-then-stops c = rw (sym c.stops.ensures ∙ c.if-stops.true) refl

pub returns-else-stops : goal.returns-else-stops
returns-else-stops c = rw (sym c.stops.ensures ∙ c.if-stops.false) refl
