-- `declaring_switches::write_switch` meets its contract.
use native.Mathlib.Omega.{arith}
use Rattle.declaring_switches.proofs.Entries.{filling-first, row-tellable, room-for-entry, filling-more, filled-all}
use Rattle.declaring_switches.proofs.Switches.{room-for-switch, switch-index, listing, switch-written}
use Rattle.declaring_switches.proofs.write_switch.Goals as goal

pub put_switch-requires : goal.put_switch-requires
put_switch-requires c = room-for-switch c.requires

pub loop-entry-init : goal.loop-entry-init
loop-entry-init c = filling-first (omega arith)

pub entry_ref-v-requires : goal.entry_ref-v-requires
entry_ref-v-requires c = row-tellable (listing c.requires c.put_switch.ensures) c.loop-entry.invariant c.loop-entry-test.true

pub put_entry-requires : goal.put_entry-requires
put_entry-requires c = room-for-entry (listing c.requires c.put_switch.ensures) c.loop-entry.invariant c.loop-entry-test.true c.entry_ref-v.ensures

pub loop-entry-preserved : goal.loop-entry-preserved
loop-entry-preserved c = filling-more (listing c.requires c.put_switch.ensures) c.loop-entry.invariant c.loop-entry-test.true c.entry_ref-v.ensures c.put_entry.ensures (omega arith)

pub bounds-switches-n : goal.bounds-switches-n
bounds-switches-n c = omega (arith, switch-index c.requires c.switches-n.ensures.is)

pub returns : goal.returns
returns c =
    switch-written c.requires c.put_switch.ensures (filled-all (listing c.requires c.put_switch.ensures) c.loop-entry.invariant c.loop-entry-test.false) c.switches-n.ensures.is
