-- `gaps::total_len` meets its contract. The invariant: n is how many bytes the first j strings have.
use Rattle.gaps.proofs.Spread.{Counted}
use Rattle.gaps.proofs.total_len.Given as goal

abbrev pub invariant-loop-j : goal.invariant-loop-j
invariant-loop-j l = Counted l.pool l.ends l.n l.j
