-- `filing::point` meets its contract.
use Rattle.state.proofs.Standing.{held, stands, becomes}
use Rattle.filing.proofs.Pointers.{point-on-movable, pointed-back, pointed-on}
use Rattle.filing.proofs.point.Goals as goal

pub move_front_to_back-requires-clause-movable : goal.move_front_to_back-requires-clause-movable
move_front_to_back-requires-clause-movable c =
    rw (c.after_string-after.ensures, c.before_string-before.ensures)
    (point-on-movable (held c.state.invariant c.state.view_is) c.requires.pointable (rw c.before_string-before.ensures at c.len_of-n.ensures))

pub invariant_of-state : goal.invariant_of-state
invariant_of-state c = stands (pointed-back (held c.state.invariant c.state.view_is) c.requires.pointable (rw c.before_string-before.ensures at c.len_of-n.ensures) c.if-bytes-n.true (rw (c.before_string-before.ensures, c.after_string-after.ensures) at c.move_back_to_front.ensures))

pub returns-then-bytes-n : goal.returns-then-bytes-n
returns-then-bytes-n c = becomes (pointed-back (held c.state.invariant c.state.view_is) c.requires.pointable (rw c.before_string-before.ensures at c.len_of-n.ensures) c.if-bytes-n.true (rw (c.before_string-before.ensures, c.after_string-after.ensures) at c.move_back_to_front.ensures))

pub invariant_of-state-2 : goal.invariant_of-state-2
invariant_of-state-2 c = stands (pointed-on (held c.state.invariant c.state.view_is) c.requires.pointable (rw c.before_string-before.ensures at c.len_of-n.ensures) c.if-bytes-n.false (rw (c.after_string-after.ensures, c.before_string-before.ensures) at c.move_front_to_back.ensures))

pub returns : goal.returns
returns c = becomes (pointed-on (held c.state.invariant c.state.view_is) c.requires.pointable (rw c.before_string-before.ensures at c.len_of-n.ensures) c.if-bytes-n.false (rw (c.after_string-after.ensures, c.before_string-before.ensures) at c.move_front_to_back.ensures))
