-- `resting::write` meets its contract.
use Rattle.state.proofs.Standing.{held}
use Rattle.resting.proofs.Laws.{numbers_fit, closed}
use Rattle.resting.proofs.write.Goals as goal

pub write_scalars-requires : goal.write_scalars-requires
write_scalars-requires c = numbers_fit (held c.working.invariant c.working.view_is) c.requires

pub returns : goal.returns
returns c = closed (held c.working.invariant c.working.view_is) c.args.state.now c.write_scalars.ensures c.write_strings.ensures
