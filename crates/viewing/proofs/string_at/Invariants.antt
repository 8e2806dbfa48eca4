-- `viewing::string_at` meets its contract.
use Rattle.viewing.proofs.Strings.{Passing}
use Rattle.viewing.proofs.string_at.Given as goal

abbrev pub invariant-loop-j : goal.invariant-loop-j
invariant-loop-j l = Passing l.strings l.i l.from l.j
