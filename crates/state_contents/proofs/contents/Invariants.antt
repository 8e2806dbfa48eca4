-- `state_contents::contents` meets its contract. The invariant: what the frames before the rest add stands in the row.
use lib.ListN.{length}
use mathlib.Core.Path.{◌≡◌}
use Rattle.state_contents.proofs.Gathering.{Gathering}
use Rattle.state_contents.proofs.contents.Given as goal

abbrev pub invariant-loop-rest : goal.invariant-loop-rest
invariant-loop-rest l = (length l.row ≡ length l.initial.row) × Gathering l.frames.text.now l.slot.kind l.slot.index l.row l.n l.rest

abbrev pub decreases-loop-rest : goal.decreases-loop-rest
decreases-loop-rest l = length l.rest
