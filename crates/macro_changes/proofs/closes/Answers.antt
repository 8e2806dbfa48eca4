-- `macro_changes::closes` meets its contract.
use mathlib.Core.Path.{sym, ◌∙◌}
use mathlib.Core.List.{[]}
use Rattle.macro_changes.proofs.closes.Goals as goal

pub returns-then-is_some : goal.returns-then-is_some
returns-then-is_some c = rw (sym c.is_some.ensures ∙ c.if-is_some.true) (c.is_mark.ensures [])
