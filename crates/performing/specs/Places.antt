-- What is asked of the next instruction by its place in the table, where its arguments are still to be read.
use Rattle.std.specs.Prelude.{◌≡◌, List, ℕ, ◌<◌, T, length}
use Rattle.language.specs.Limits as limit
use Rattle.language.specs.Operators.{op_by}
use Rattle.language.specs.Program.{Op}
use Rattle.language.specs.Values.{State}
use Rattle.layout.specs.Table.{program_of, good_table}
use Rattle.packed.specs.Packed.{table_of}
use Rattle.table.specs.Reads.{IsInstruction}
use Rattle.table.specs.declared.Instruction.{Instruction}
use Rattle.performing.specs.Stepping.{Steppable}

-- instruction i is the next one and has the operator op, and its cells have `instruction`
pub record CarryingAt (c : List ℕ) (σ : State) (op : Op) (i : ℕ) : Type 0 where
  pub table : T (good_table c)
  pub place : i < limit.instructions
  pub inside : i < length (program_of c).code
  pub next : i ≡ σ.next
  pub instruction : Instruction
  pub is : IsInstruction (table_of c) i instruction
  pub operator : op_by instruction.op ≡ op

-- and inputs and state are well formed
pub record PerformingAt (c i j : List ℕ) (σ : State) (op : Op) (k : ℕ) : Type 0 where
  pub ready : Steppable c i j σ
  pub carrying : CarryingAt c σ op k
