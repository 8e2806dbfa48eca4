-- `declaring_switches::declare_switch` meets its contract.
use Rattle.declaring.proofs.Instructing.{none-by}
use Rattle.declaring_switches.proofs.Switches.{switch-judgeable, switch-refused, switch-writable, switch-declared}
use Rattle.declaring_switches.proofs.declare_switch.Goals as goal

pub judge_switch-fault-requires : goal.judge_switch-fault-requires
judge_switch-fault-requires c = switch-judgeable c.requires

pub write_switch-requires : goal.write_switch-requires
write_switch-requires c = switch-writable c.requires c.judge_switch-fault.ensures (none-by _ c.is_none.ensures c.if-is_none.true)

pub returns-then-is_none : goal.returns-then-is_none
returns-then-is_none c = switch-declared c.requires c.judge_switch-fault.ensures (none-by _ c.is_none.ensures c.if-is_none.true) c.write_switch.ensures

pub returns-else-is_none : goal.returns-else-is_none
returns-else-is_none c = switch-refused c.requires c.judge_switch-fault.ensures c.is_none.ensures c.if-is_none.false
