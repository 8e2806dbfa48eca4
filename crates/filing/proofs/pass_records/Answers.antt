-- `filing::pass_records` meets its contract.
use Rattle.state.proofs.Standing.{held, stands, becomes}
use Rattle.filing.proofs.Pointers.{pass-movable, records-passed}
use Rattle.filing.proofs.pass_records.Goals as goal

pub move_front_to_back-requires-clause-movable : goal.move_front_to_back-requires-clause-movable
move_front_to_back-requires-clause-movable c = rw (c.after_string.ensures, c.before_string.ensures) (pass-movable (held c.state.invariant c.state.view_is) c.requires.passable)

pub invariant_of-state : goal.invariant_of-state
invariant_of-state c = stands (records-passed (held c.state.invariant c.state.view_is) c.requires.passable (rw (c.after_string.ensures, c.before_string.ensures) at c.move_front_to_back.ensures))

pub returns : goal.returns
returns c = becomes (records-passed (held c.state.invariant c.state.view_is) c.requires.passable (rw (c.after_string.ensures, c.before_string.ensures) at c.move_front_to_back.ensures))
