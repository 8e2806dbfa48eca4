-- `components::split` meets its contract.
use Rattle.components.proofs.Makings.{Splitting}
use Rattle.components.proofs.split.Given as goal

abbrev pub invariant-loop-i : goal.invariant-loop-i
invariant-loop-i l = Splitting l.initial.out l.w l.out l.i
