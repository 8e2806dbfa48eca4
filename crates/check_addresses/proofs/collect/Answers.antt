-- `check_addresses::collect` meets its contract.
use native.Mathlib.Omega.{arith}
use Rattle.check_addresses.proofs.Loops.{collecting-none, room, collecting-next, collected}
use Rattle.check_addresses.proofs.collect.Goals as goal

pub loop-r-init : goal.loop-r-init
loop-r-init c = collecting-none c.requires

pub overflow_add-k : goal.overflow_add-k
overflow_add-k c = omega (arith, room c.requires c.loop-r.invariant c.in-Some.ensures)

pub loop-r-preserved : goal.loop-r-preserved
loop-r-preserved c = collecting-next c.requires c.loop-r.invariant c.in-Some.ensures c.address_of.ensures.is

pub returns : goal.returns
returns c = collected c.requires c.loop-r.invariant c.in_default.ensures
