-- `check_memory::Memory::new` meets its contract.
use Rattle.check_memory.proofs.Steps.{readable}
use Rattle.check_memory.proofs.Memory.new.Goals as goal

pub invariant_of-result : goal.invariant_of-result
invariant_of-result c = readable c.requires c.starts_of.ensures
