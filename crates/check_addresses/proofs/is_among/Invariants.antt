-- `check_addresses::is_among` meets its contract: what is found, or is in the rest.
use mathlib.Core.Path.{◌≡◌}
use mathlib.Core.Bool.{◌||◌}
use lib.Dec.{eqb}
use lib.ListN.{drop}
use Rattle.lists.specs.Lists.{any}
use Rattle.check_addresses.proofs.is_among.Given as goal

abbrev pub invariant-loop-y : goal.invariant-loop-y
invariant-loop-y l = l.found || any (eqb l.x) (drop l.y-index l.list) ≡ any (eqb l.x) l.list
