-- `declaring::declare_instruction` meets its contract.
use Rattle.declaring.proofs.Instructing.{enterable, none-by, declared-none, writable, declared}
use Rattle.declaring.proofs.declare_instruction.Goals as goal

pub judge_instruction-fault-requires : goal.judge_instruction-fault-requires
judge_instruction-fault-requires c = enterable c.requires

pub write_instruction-requires : goal.write_instruction-requires
write_instruction-requires c = writable c.requires c.judge_instruction-fault.ensures (none-by _ c.is_none.ensures c.if-is_none.true)

pub returns-then-is_none : goal.returns-then-is_none
returns-then-is_none c = declared c.requires c.judge_instruction-fault.ensures (none-by _ c.is_none.ensures c.if-is_none.true) c.write_instruction.ensures

pub returns-else-is_none : goal.returns-else-is_none
returns-else-is_none c = declared-none c.requires c.judge_instruction-fault.ensures c.is_none.ensures c.if-is_none.false
