-- `control::go_back` meets its contract.
use mathlib.Core.Path.{◌∙◌, refl}
use Rattle.state.proofs.Standing.{held, stands, becomes}
use Rattle.control.proofs.Laws.{top_within, top_read, returned}
use Rattle.control.proofs.go_back.Goals as goal

pub part_of-e-requires : goal.part_of-e-requires
part_of-e-requires c = top_within (held c.state.invariant c.state.view_is) c.requires

pub invariant_of-state : goal.invariant_of-state
invariant_of-state c =
    let h = held c.state.invariant c.state.view_is in
    stands (returned h c.requires (c.two_at-t.ensures.is ∙ top_read h c.requires c.part_of-e.ensures.is) c.drop_front.ensures refl)

pub returns : goal.returns
returns c =
    let h = held c.state.invariant c.state.view_is in
    becomes (returned h c.requires (c.two_at-t.ensures.is ∙ top_read h c.requires c.part_of-e.ensures.is) c.drop_front.ensures refl)
