-- `macro_reading::read_list` meets its contract.
use native.Mathlib.Omega.{arith}
use Rattle.macro_reading.proofs.Finishing.{listable, tailed, puttable, list-by, follows, sectioned, list_done}
use Rattle.macro_reading.proofs.read_list.Goals as goal

pub read_definitions-d-requires : goal.read_definitions-d-requires
read_definitions-d-requires c = listable c.requires

pub read_tail-e-requires : goal.read_tail-e-requires
read_tail-e-requires c = tailed c.requires c.read_definitions-d.ensures

pub follow_fault-requires : goal.follow_fault-requires
follow_fault-requires c = follows c.requires c.read_definitions-d.ensures c.read_tail-e.ensures

pub put_change-requires-clause-room : goal.put_change-requires-clause-room
put_change-requires-clause-room c = let p = puttable c.requires c.read_definitions-d.ensures c.read_tail-e.ensures in omega (arith, p.room)

pub put_change-requires-clause-place : goal.put_change-requires-clause-place
put_change-requires-clause-place c = let p = puttable c.requires c.read_definitions-d.ensures c.read_tail-e.ensures in (p.at_low, p.stop_low)

pub read_section-section-requires : goal.read_section-section-requires
read_section-section-requires c = sectioned c.requires c.read_definitions-d.ensures c.read_tail-e.ensures (list-by (puttable c.requires c.read_definitions-d.ensures c.read_tail-e.ensures) c.put_change.ensures)

pub returns : goal.returns
returns c =
    rw (c.lower-3.ensures, c.lower-2.ensures, c.lower.ensures, c.lower-before.ensures)
    (list_done c.requires c.read_definitions-d.ensures c.read_tail-e.ensures (list-by (puttable c.requires c.read_definitions-d.ensures c.read_tail-e.ensures) c.put_change.ensures) c.read_section-section.ensures c.follow_fault.ensures)
