-- `control::call_to` meets its contract.
use mathlib.Core.Path.{refl}
use native.Mathlib.Omega.{arith}
use Rattle.state.proofs.Standing.{held, stands, becomes}
use Rattle.control.proofs.Laws.{entry-is, return-pushable, called}
use Rattle.control.proofs.call_to.Goals as goal

pub push_front-requires : goal.push_front-requires
push_front-requires c = return-pushable (held c.state.invariant c.state.view_is) c.requires (rw c.to_le_bytes-entry.ensures (omega arith))

pub invariant_of-state : goal.invariant_of-state
invariant_of-state c =
    let h = held c.state.invariant c.state.view_is in
    stands (called h c.requires (entry-is h c.requires refl c.to_le_bytes-entry.ensures) c.push_front.ensures refl)

pub returns : goal.returns
returns c =
    let h = held c.state.invariant c.state.view_is in
    becomes (called h c.requires (entry-is h c.requires refl c.to_le_bytes-entry.ensures) c.push_front.ensures refl)
