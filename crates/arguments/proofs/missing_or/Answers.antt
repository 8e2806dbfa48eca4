-- `arguments::missing_or` meets its contract.
use borrow.Author.Tests.{lt-ltb, le-ltb}
use Rattle.arguments.specs.Arguments.{missing_or}
use Rattle.arguments.proofs.missing_or.Goals as goal

pub returns-then-count-from : goal.returns-then-count-from
unfolding missing_or
returns-then-count-from c = rw (← c.from.ensures, ← c.least.ensures.0, ← c.from-2.ensures, lt-ltb _ _ c.if-count-from.true)

pub returns-else-count-from : goal.returns-else-count-from
unfolding missing_or
returns-else-count-from c = rw (← c.from.ensures, ← c.least.ensures.0, ← c.from-2.ensures, le-ltb _ _ c.if-count-from.false)
