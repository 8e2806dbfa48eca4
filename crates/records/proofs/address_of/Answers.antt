-- `records::address_of` meets its contract.
use native.Mathlib.Omega.{arith}
use Rattle.records.proofs.Steps.{start-room, address_read}
use Rattle.records.proofs.address_of.Goals as goal

pub three_at-requires : goal.three_at-requires
three_at-requires c = omega (arith, start-room c.requires)

pub returns : goal.returns
returns c = address_read c.requires c.three_at.ensures.is
