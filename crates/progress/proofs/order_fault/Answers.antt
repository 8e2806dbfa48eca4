-- `progress::order_fault` meets its contract.
use mathlib.Core.Path.{refl}
use Rattle.headings.specs.HeadingLaws.{fault-one}
use Rattle.progress.proofs.order_fault.Goals as goal

pub returns-then-c : goal.returns-then-c
returns-then-c c = rw c.if-c.true refl

pub returns-else-c : goal.returns-else-c
returns-else-c c = rw c.if-c.false (fault-one c.args.last)
