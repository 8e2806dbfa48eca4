-- `switch_lists::colon_left` meets its contract.
use mathlib.Core.Bool.{true}
use Rattle.switch_lists.proofs.Colons.{left_fault}
use Rattle.switch_lists.proofs.colon_left.Goals as goal

pub returns-then-before-follows : goal.returns-then-before-follows
returns-then-before-follows c = rw c.if-before-follows.true (left_fault true c.args.before.colon)
