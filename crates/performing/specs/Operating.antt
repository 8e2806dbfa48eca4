-- What is asked of an instruction that reads no input, and what is promised of it then: the same for any inputs.
use Rattle.std.specs.Prelude.{List, ℕ, ◌<◌, T, length}
use Rattle.language.specs.Instructions.{number_of}
use Rattle.language.specs.Program.{Op}
use Rattle.language.specs.Values.{State}
use Rattle.layout.specs.Table.{program_of, good_table}
use Rattle.decoding.specs.Operands.{Read}
use Rattle.table.specs.declared.Argument.{Argument}
use Rattle.performing.specs.Performing.{Performs, Leads}

-- the next instruction has the operator op and the arguments x, y and z
pub record Carrying (c : List ℕ) (σ : State) (op : Op) (x y z : Argument) : Type 0 where
  pub table : T (good_table c)
  pub inside : σ.next < length (program_of c).code
  pub read : Read c σ.next (number_of op) x y z

abbrev pub PerformsFor : List ℕ → State → ℕ → State → Type 0
PerformsFor c σ told σ' = (i j : List ℕ) → Performs c i j σ told σ'

abbrev pub LeadsFor : List ℕ → State → ℕ → State → Type 0
LeadsFor c σ told σ' = (i j : List ℕ) → Leads c i j σ told σ'
