-- `filing::write_records` meets its contract.
use native.Mathlib.Omega.{arith}
use mathlib.Core.Path.{refl}
use Rattle.state.proofs.Standing.{held, stands, becomes}
use Rattle.filing.proofs.Stored.{records-insertable, records-room, addresses-room, records-stored}
use Rattle.filing.proofs.write_records.Goals as goal

pub insert-requires : goal.insert-requires
insert-requires c = records-insertable (held c.state.invariant c.state.view_is) c.args.target.reverses c.requires

pub overflow_add-state : goal.overflow_add-state
overflow_add-state c = omega (arith, records-room (held c.state.invariant c.state.view_is) c.args.target.reverses c.requires c.raise.ensures)

pub overflow_add-state-2 : goal.overflow_add-state-2
overflow_add-state-2 c = omega (arith, addresses-room (held c.state.invariant c.state.view_is) c.args.target.reverses c.requires c.raise.ensures)

pub invariant_of-state : goal.invariant_of-state
invariant_of-state c =
    stands (records-stored (held c.state.invariant c.state.view_is) c.args.target.reverses c.requires c.insert.ensures c.raise.ensures refl refl refl refl)

pub returns : goal.returns
returns c =
    becomes (records-stored (held c.state.invariant c.state.view_is) c.args.target.reverses c.requires c.insert.ensures c.raise.ensures refl refl refl refl)
