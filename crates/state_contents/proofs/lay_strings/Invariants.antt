-- `state_contents::lay_strings` meets its contract. The invariant: the first j strings are laid, if all have room.
use mathlib.Core.Path.{◌≡◌}
use lib.ListN.{length}
use Rattle.language.specs.Limits as limit
use Rattle.state_contents.proofs.Laying.{Laying}
use Rattle.state_contents.proofs.lay_strings.Given as goal

abbrev pub invariant-loop-j : goal.invariant-loop-j
invariant-loop-j l = (length l.row ≡ limit.state) × Laying l.frames.text.now l.initial.m l.m l.at l.j
