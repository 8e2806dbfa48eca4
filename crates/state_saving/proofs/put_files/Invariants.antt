-- `state_saving::put_files` meets its contract. The invariant: the frames of the first i files are written.
use Rattle.state_frames.specs.Frames.{file}
use Rattle.state_saving.specs.Saving.{files_from}
use Rattle.state_saving.proofs.Appending.{Writing}
use Rattle.state_saving.proofs.put_files.Given as goal

abbrev pub invariant-loop-i : goal.invariant-loop-i
invariant-loop-i l = Writing file (files_from l.memory) l.from l.initial.out l.i l.at l.out
