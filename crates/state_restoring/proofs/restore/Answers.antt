-- `state_restoring::restore` meets its contract.
use Rattle.state_restoring.proofs.Reader.{too_long, not-state, saveable, compared}
use Rattle.state_restoring.proofs.restore.Goals as goal

pub returns-then-text-gt-SAVED : goal.returns-then-text-gt-SAVED
returns-then-text-gt-SAVED c = too_long c.requires c.if-text-gt-SAVED.true

pub lay_state-requires : goal.lay_state-requires
lay_state-requires c =
    let pre = c.requires in
    (pre.sound, pre.zeros)

pub returns-then-not-is_state : goal.returns-then-not-is_state
returns-then-not-is_state c =
    let pre = c.requires in
    let lay-state = c.lay_state in
    let fill-totals = c.fill_totals in
    not-state pre lay-state.ensures fill-totals.ensures c.is_state.ensures (c.if-not-is_state.true)

pub is_saved-requires : goal.is_saved-requires
is_saved-requires c =
    let pre = c.requires in
    let lay-state = c.lay_state in
    let fill-totals = c.fill_totals in
    saveable pre lay-state.ensures fill-totals.ensures c.is_state.ensures (c.if-not-is_state.false)

pub returns : goal.returns
returns c =
    let pre = c.requires in
    let lay-state = c.lay_state in
    let fill-totals = c.fill_totals in
    let is_state = c.is_state in
    compared pre lay-state.ensures fill-totals.ensures is_state.ensures (c.if-not-is_state.false) c.is_saved.ensures
