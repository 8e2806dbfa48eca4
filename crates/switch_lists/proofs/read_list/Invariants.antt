-- `switch_lists::read_list` meets its contract.
use Prim.Native.Nat.{◌-◌}
use lib.ListN.{length}
use Rattle.switch_lists.proofs.Reading.{Reading}
use Rattle.switch_lists.proofs.read_list.Given as goal

abbrev pub invariant-loop-before : goal.invariant-loop-before
invariant-loop-before l =
    Reading l.text l.first l.named l.fn.worst l.fault l.over l.words l.w l.before l.i l.entries l.texts

abbrev pub decreases-loop-before : goal.decreases-loop-before
decreases-loop-before l =
    length l.text - l.i
