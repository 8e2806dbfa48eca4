-- `macro_lines::find_lines` meets its contract.
use Rattle.macro_lines.proofs.Going.{Finding}
use Rattle.macro_lines.proofs.find_lines.Given as goal

abbrev pub invariant-loop-place : goal.invariant-loop-place
invariant-loop-place l = Finding l.text l.initial.places l.place-index l.from l.line l.places
