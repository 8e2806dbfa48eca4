-- `resting::open` meets its contract.
use Rattle.state.proofs.Standing.{stands, becomes}
use mathlib.Core.Path.{refl}
use Rattle.resting.proofs.Laws.{scalars-readable, unpackable, opened}
use Rattle.resting.proofs.open.Goals as goal

pub read_scalars-working-inside-requires : goal.read_scalars-working-inside-requires
read_scalars-working-inside-requires c = scalars-readable c.requires

pub unpack-requires : goal.unpack-requires
unpack-requires c = unpackable c.requires refl

pub invariant_of-working : goal.invariant_of-working
invariant_of-working c = stands (opened c.requires refl c.read_scalars-working-inside.ensures c.unpack.ensures)

pub returns : goal.returns
returns c = becomes (opened c.requires refl c.read_scalars-working-inside.ensures c.unpack.ensures)
