-- What a well-formed table says of what is read from it.
use Rattle.std.specs.Prelude.{◌≡◌, List, ℕ, ◌≤◌, ◌<◌, T, length}
use Rattle.packed.specs.Below.Lists.{all, among}
use Rattle.packed.specs.Below.Quoted.{bytes}
use Rattle.packed.specs.Below.Characters.{known}
use Rattle.packed.specs.Below.Instructions.{Forms, operation, operator_of}
use Rattle.packed.specs.Below.Letters.{indices, use_of}
use Rattle.packed.specs.Below.Program.{Arg, Instr, Program, instr_at, label_at, switch_at}
use Rattle.packed.specs.Below.Facts.{InstrFacts}
use Rattle.packed.specs.Below.WellFormed.{form}
use Rattle.packed.specs.Below.LayoutCells.{cell}
use Rattle.packed.specs.Below.Table.{instr_in, label_in, switch_in, program_of}
use Rattle.packed.specs.Packed.{table_of}
use Rattle.table.specs.Denote.{letter_of, arg_of, text_of}
use Rattle.table.specs.Reads.{Placed, switch_first, switch_size, Entries}
use Rattle.table.specs.declared.Letter.{Letter}
use Rattle.table.specs.declared.Argument.{Argument}
use Rattle.table.specs.declared.Argument.TheVariants.{Indexed, Label, Switch, Class, Text, Number}
use Rattle.table.specs.declared.TextRef.{TextRef}

-- an index of an indexed letter
pub record GoodIndex (l : Letter) (n : ℕ) : Type 0 where
  pub from : 0 < n
  pub to : n ≤ indices (use_of (letter_of l)).var
  pub most : n ≤ 32

pub record GoodLabel (c : List ℕ) (k : ℕ) : Type 0 where
  pub few : k < 128
  pub counted : k < cell (table_of c) 1
  pub is : label_at (program_of c) k ≡ label_in (table_of c) k
  pub target : (label_in (table_of c) k).target < length (program_of c).code
  pub most : (label_in (table_of c) k).target < 512

pub record GoodSwitch (c : List ℕ) (k : ℕ) : Type 0 where
  pub few : k < 32
  pub counted : k < cell (table_of c) 2
  pub is : switch_at (program_of c) k ≡ switch_in (table_of c) k
  pub some : 0 < switch_size (table_of c) k
  pub entries : Entries c (switch_first (table_of c) k) (switch_size (table_of c) k)

pub record GoodText (c : List ℕ) (r : TextRef) : Type 0 where
  pub placed : Placed r
  pub some : 0 < length (text_of (table_of c) r)
  pub short : length (text_of (table_of c) r) ≤ 60
  pub chars : T (all known (text_of (table_of c) r))

-- r, read from a well-formed table, stands for the argument a
pub record GoodArgument (c : List ℕ) (a : Arg) (r : Argument) : Type 0 where
  pub is : arg_of (table_of c) r ≡ a
  pub index : (l : Letter) (n : ℕ) → r ≡ Indexed l n → GoodIndex l n
  pub label : (k : ℕ) → r ≡ Label k → GoodLabel c k
  pub switch : (k : ℕ) → r ≡ Switch k → GoodSwitch c k
  pub class : (m : ℕ) → r ≡ Class m → (0 < m) × (m < 16)
  pub text : (t : TextRef) → r ≡ Text t → GoodText c t
  pub number : (v : ℕ) → r ≡ Number v → v ≤ 16777214

-- instruction i, and n, its operator's number
pub record GoodInstruction (c : List ℕ) (i n : ℕ) : Type 0 where
  pub few : i < 512
  pub is : instr_at (program_of c) i ≡ instr_in (table_of c) i
  pub facts : InstrFacts (program_of c) (instr_at (program_of c) i)
  pub from : 0 < n
  pub to : n ≤ 41
  pub number : (operation (instr_at (program_of c) i).op).number ≡ n
  pub operator : operator_of n ≡ (instr_at (program_of c) i).op

-- an instruction's arguments have these forms
pub record Formed (p : Program) (i : Instr) (f : Forms) : Type 0 where
  pub first : T (among (form p i.first) (bytes f.0))
  pub second : T (among (form p i.second) (bytes f.1))
  pub third : T (among (form p i.third) (bytes f.2))
