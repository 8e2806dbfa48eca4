-- `macro_memory::Memory::new` meets its contract.
use Rattle.std.proofs.Common.{refl}
use Rattle.macro_memory.specs.MemoryLaws.{remembers-none}
use Rattle.macro_memory.proofs.Memory.new.Goals as goal

pub returns : goal.returns
returns k = λ s c f n v. remembers-none s c f n 128 _ v refl
