-- `state_saving::put_strings` meets its contract. The invariant: the frames of the first i strings are written.
use Rattle.state_lines.specs.Kinds.{kind_number}
use Rattle.state_saving.specs.Saving.{strings_from}
use Rattle.state_saving.proofs.Appending.{Writing}
use Rattle.state_saving.proofs.put_strings.Given as goal

abbrev pub invariant-loop-i : goal.invariant-loop-i
invariant-loop-i l = Writing (kind_number l.kind) (strings_from l.memory l.first l.count) l.from l.initial.out l.i l.at l.out
