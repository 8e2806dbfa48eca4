-- `records::size_of` meets its contract.
use native.Mathlib.Omega.{arith}
use Rattle.records.proofs.Steps.{start-room, ends_at}
use Rattle.records.proofs.size_of.Goals as goal

pub two_at-requires : goal.two_at-requires
two_at-requires c = omega (arith, start-room c.requires)

pub returns : goal.returns
returns c = ends_at c.requires c.two_at.ensures.is
