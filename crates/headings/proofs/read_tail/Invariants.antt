-- `headings::read_tail` meets its contract. The invariant: t is the next item from a place on up to which all is read.
use Rattle.std.proofs.Common.{ℕ}
use Prim.Native.Nat.{◌-◌}
use lib.ListN.{length}
use Rattle.lexer.specs.Tokens.{NextToken}
use Rattle.headings.specs.HeadingLaws.{Reading}
use Rattle.headings.proofs.read_tail.Given as goal

abbrev pub invariant-loop-more : goal.invariant-loop-more
invariant-loop-more l = (i : ℕ) × Reading l.text l.first l.fn.worst l.more l.w i × NextToken l.text i l.t

abbrev pub decreases-loop-more : goal.decreases-loop-more
decreases-loop-more l = length l.text - l.t.at
