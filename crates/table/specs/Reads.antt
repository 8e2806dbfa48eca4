-- What the readers of a program table ask and promise.
use Rattle.std.specs.Prelude.{◌≡◌, List, ℕ, ◌+◌, ◌*◌, ◌/◌, ◌%◌, ◌≤◌, ◌<◌, T}
use Rattle.packed.specs.Below.Lists.{ahead, filled}
use Rattle.packed.specs.Below.Program.{Entry, meets}
use Rattle.packed.specs.Below.LayoutCells.{cell, tab}
use Rattle.packed.specs.Below.Table.{text_by, arg_in, instr_in, entry_in, program_of}
use Rattle.packed.specs.Below.LayoutPlaces as layout
use Rattle.packed.specs.Packed.{table_of}
use Rattle.table.specs.Denote.{arg_of, ref_by}
use Rattle.language.specs.Instructions.{number_of}
use Rattle.language.specs.Operators.{op_by}
use Rattle.table.specs.declared.Instruction.{Instruction}
use Rattle.table.specs.declared.Argument.{Argument}
use Rattle.table.specs.declared.Argument.TheVariants.{Nothing, Indexed, Label, Switch, Class, Text, Number}
use Rattle.table.specs.declared.TextRef.{TextRef}
use Rattle.table.specs.declared.TextRef.TheVariants.{Empty, Byte, Place as At}

-- a text's place is one of the table's
abbrev pub Placed : TextRef → Type 0
Placed Empty = Unit {0}
Placed (Byte b) = Unit {0}
Placed (At k) = k < 128

-- it is, and m bytes have room for the text's characters
pub record Into (r : TextRef) (m : ℕ) : Type 0 where
  pub placed : Placed r
  pub room : 60 ≤ m

-- r is what the number v refers to, and v is below m
pub record RefersTo (v m : ℕ) (r : TextRef) : Type 0 where
  pub is : r ≡ ref_by v
  pub most : v < m

-- how large the numbers of an argument can be, whatever its cell's number x; a text is what the cell's value refers to
abbrev pub Small : ℕ → Argument → Type 0
Small x Nothing = Unit {0}
Small x (Indexed l n) = n < 64
Small x (Label k) = k < 536870912
Small x (Switch k) = k < 536870912
Small x (Class m) = m < 16
Small x (Text r) = RefersTo (x / 8) 536870912 r
Small x (Number v) = v < 4294967296

-- the number of the operator of instruction i
abbrev pub operator_number : List ℕ → ℕ → ℕ
operator_number c i = cell c (layout.first_instruction + 4 * i) % 64

-- r stands for the argument in cell k
pub record IsArgument (c : List ℕ) (k : ℕ) (r : Argument) : Type 0 where
  pub is : arg_of c r ≡ arg_in c k
  pub small : Small (cell c k) r

-- instruction i has an operator
pub record Operated (c : List ℕ) (i : ℕ) : Type 0 where
  pub place : i < 512
  pub from : 0 < operator_number (table_of c) i
  pub to : operator_number (table_of c) i ≤ 41

-- r is the operator and the arguments of instruction i
pub record IsInstruction (c : List ℕ) (i : ℕ) (r : Instruction) : Type 0 where
  pub op : op_by r.op ≡ (instr_in c i).op
  pub number : number_of (op_by r.op) ≡ operator_number c i
  pub first : IsArgument c (1 + (layout.first_instruction + 4 * i)) r.x
  pub second : IsArgument c (2 + (layout.first_instruction + 4 * i)) r.y
  pub third : IsArgument c (3 + (layout.first_instruction + 4 * i)) r.z

-- ---- switches

-- the first entry of switch k, and how many it has
abbrev pub switch_first : List ℕ → ℕ → ℕ
switch_first c k = cell c (layout.first_switch + k) / 512

abbrev pub switch_size : List ℕ → ℕ → ℕ
switch_size c k = cell c (layout.first_switch + k) / 2 % 256

-- the reference of the text of entry e
abbrev pub entry_ref : List ℕ → ℕ → ℕ
entry_ref c e = cell c (layout.first_entry + e) / 128

-- entry e is in the table, its label is declared, and its text, where it has one, is there
pub record Keyed (c : List ℕ) (e : ℕ) : Type 0 where
  pub entry : e < 128
  pub label : (entry_in (table_of c) e).label < cell (table_of c) 1
  pub text : entry_ref (table_of c) e < 384
  pub some : (entry_ref (table_of c) e ≡ 0 → ⊥) → T (filled (text_by (table_of c) (entry_ref (table_of c) e)))

-- and so are n entries from entry e on
pub record Entries (c : List ℕ) (e n : ℕ) : Type 0 where
  pub inside : e + n ≤ 128
  pub keyed : (k : ℕ) → k < n → Keyed c (e + k)

abbrev pub entries_from : List ℕ → ℕ → ℕ → List Entry
entries_from c e n = tab n (λ k. entry_in c (e + k))

-- how many entries stand before the first that is met by the word w
abbrev pub met : List ℕ → List ℕ → List Entry → ℕ
met c w es = ahead (λ x. meets (program_of c) x w) es
