-- `filing::drop_records` meets its contract.
use mathlib.Core.Path.{refl}
use native.Mathlib.Omega.{arith}
use Rattle.state.proofs.Standing.{held, stands, becomes}
use Rattle.filing.proofs.Removed.{records-droppable, records-lowerable, records-fewer, records-dropped}
use Rattle.filing.proofs.drop_records.Goals as goal

pub drop_front-requires : goal.drop_front-requires
drop_front-requires c = rw c.after_string.ensures (records-droppable (held c.state.invariant c.state.view_is) c.requires)

pub lower-requires : goal.lower-requires
lower-requires c = records-lowerable (held c.state.invariant c.state.view_is) c.requires

pub overflow_sub-state : goal.overflow_sub-state
overflow_sub-state c = omega (arith, records-fewer (held c.state.invariant c.state.view_is) c.requires c.lower.ensures)

pub invariant_of-state : goal.invariant_of-state
invariant_of-state c =
    stands (records-dropped (held c.state.invariant c.state.view_is) c.requires (rw c.after_string.ensures at c.drop_front.ensures) c.lower.ensures refl refl)

pub returns : goal.returns
returns c =
    becomes (records-dropped (held c.state.invariant c.state.view_is) c.requires (rw c.after_string.ensures at c.drop_front.ensures) c.lower.ensures refl refl)
