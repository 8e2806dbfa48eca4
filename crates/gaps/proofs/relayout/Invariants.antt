-- `gaps::relayout` meets its contract. The invariant: the first j strings are laid out in `scratch`.
use Rattle.gaps.proofs.Spread.{Moving}
use Rattle.gaps.proofs.relayout.Given as goal

abbrev pub invariant-loop-j : goal.invariant-loop-j
invariant-loop-j l = Moving l.pool l.initial.ends l.initial.scratch l.i l.n l.ends l.scratch l.at l.j
