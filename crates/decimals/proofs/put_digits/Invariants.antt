-- `decimals::put_digits` meets its contract.
use Rattle.decimals.proofs.Digits.{Digiting}
use Rattle.decimals.proofs.put_digits.Given as goal

abbrev pub invariant-loop-i : goal.invariant-loop-i
invariant-loop-i l = Digiting l.initial.out l.at l.n l.out l.i l.m
