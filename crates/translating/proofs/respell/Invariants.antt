-- `translating::respell` meets its contract. The invariant: the text is read and written as far as p tells, and t is the next item.
use mathlib.Core.Path.{◌≡◌}
use Prim.Native.Nat.{◌-◌}
use lib.ListN.{length}
use Rattle.lexer.specs.Tokens.{NextToken}
use Rattle.translating.specs.Translating.{Reached}
use Rattle.translating.proofs.respell.Given as goal

abbrev pub invariant-loop-t : goal.invariant-loop-t
invariant-loop-t l = (Reached l.text l.p l.made) × (length l.made ≡ length l.initial.made) × NextToken l.text l.p.next l.t

abbrev pub decreases-loop-t : goal.decreases-loop-t
decreases-loop-t l = length l.text - l.p.next
