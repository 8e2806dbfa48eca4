-- What each turn of the loop in `put_labels` keeps.
use Rattle.declaring.proofs.Naming.{Putting}
use Rattle.declaring.proofs.put_labels.Given as goal

abbrev pub invariant-loop-mark : goal.invariant-loop-mark
invariant-loop-mark l = Putting l.text l.labels l.target l.initial.table l.table l.mark-index
