-- What the operands of an instruction are, decoded from its arguments, and what decoding asks.
use Rattle.std.specs.Prelude.{◌≡◌, List, ℕ, suc, ◌<◌, T}
use Rattle.lists.specs.Lists.{among}
use Rattle.lists.specs.Quoted.{bytes}
use Rattle.language.specs.Limits as limit
use Rattle.language.specs.Letters.{Var, letter_code, use_of}
use Rattle.language.specs.Letters.Var.{expression, input, output, file}
use Rattle.language.specs.Program.{instr_at}
use Rattle.table.specs.Below.Table.{program_of}
use Rattle.machine.specs.WellFormed.{form}
use Rattle.instructions.specs.Operands.{target}
use Rattle.table.specs.Below.Packed.{table_of}
use Rattle.instructions.specs.Below.Working.{nth, reading, filing}
use Rattle.table.specs.Denote.{letter_of, arg_of}
use Rattle.table.specs.Good.{GoodIndex, GoodLabel, GoodSwitch, GoodArgument, GoodInstruction}
use Rattle.table.specs.declared.Letter.{Letter}
use Rattle.table.specs.declared.Argument.{Argument}
use Rattle.table.specs.declared.Argument.TheVariants.{Indexed, Label, Switch}
use Rattle.decoding.specs.declared.Opened.{Opened}
use Rattle.instructions.specs.Below.FileTarget.{FileTarget}
use Rattle.instructions.specs.Below.Source.{Source}
use Rattle.instructions.specs.Below.Target.{Target}
use Rattle.decoding.specs.declared.Variable.{Variable}
use Rattle.decoding.specs.declared.Variable.TheVariants.{Expression, Input, Output, File}

-- the variables, and the letters that name one
abbrev pub var_of : Variable → Var
var_of Expression = expression
var_of Input = input
var_of Output = output
var_of File = file

abbrev pub letters_of : Var → List ℕ
letters_of expression = bytes "ABENTYZ"
letters_of input = bytes "I"
letters_of output = bytes "Q"
letters_of file = bytes "CDP"

-- ---- what is asked of an argument

-- it is an indexed letter
pub record Lettered (a : Argument) : Type 0 where
  pub letter : Letter
  pub index : ℕ
  pub is : a ≡ Indexed letter index
  pub good : GoodIndex letter index

-- of these forms
pub record Named (fs : List ℕ) (a : Argument) : Type 0 where
  pub lettered : Lettered a
  pub listed : T (among (letter_code (letter_of lettered.letter)) fs)

-- it is a label, a switch
pub record Labelled (a : Argument) : Type 0 where
  pub place : ℕ
  pub is : a ≡ Label place

pub record Switched (a : Argument) : Type 0 where
  pub place : ℕ
  pub is : a ≡ Switch place

-- ---- what is told

pub record IsOpened (a : Argument) (r : Opened) : Type 0 where
  pub is : a ≡ Indexed r.letter (suc r.i)
  pub good : GoodIndex r.letter (suc r.i)

-- a variable of a letter, and whether the letter removes what it reads
pub record IsRead (a : Argument) (r : Source) : Type 0 where
  pub letter : Letter
  pub is : a ≡ Indexed letter (suc r.i)
  pub good : GoodIndex letter (suc r.i)
  pub removes_is : r.removes ≡ (use_of (letter_of letter)).removes

-- an expression that components are read from, one that they are written to; a file that records are read from, one that they are written to
pub record IsSource (a : Argument) (r : Source) : Type 0 where
  pub is : (t : List ℕ) → arg_of t a ≡ nth (reading r.removes) r.i
  pub below : r.i < limit.expressions

pub record IsTarget (a : Argument) (r : Target) : Type 0 where
  pub is : (t : List ℕ) → arg_of t a ≡ nth (target r.reverses r.at_end) r.j
  pub below : r.j < limit.expressions

pub record IsFile (a : Argument) (r : Source) : Type 0 where
  pub is : (t : List ℕ) → arg_of t a ≡ nth (filing r.removes) r.i
  pub below : r.i < limit.files

pub record IsFileTarget (a : Argument) (r : FileTarget) : Type 0 where
  pub is : (t : List ℕ) → arg_of t a ≡ nth (filing r.reverses) r.j
  pub below : r.j < limit.files

-- a variable by its index from 0
pub record IsIndex (a : Argument) (r : ℕ) : Type 0 where
  pub letter : Letter
  pub is : a ≡ Indexed letter (suc r)
  pub good : GoodIndex letter (suc r)

pub record IsVariable (a : Argument) (r : Variable) : Type 0 where
  pub letter : Letter
  pub index : ℕ
  pub is : a ≡ Indexed letter index
  pub variable : (use_of (letter_of letter)).var ≡ var_of r

-- ---- an instruction of a well-formed table

-- argument a has one of these forms
abbrev pub Listed : List ℕ → List ℕ → Argument → Type 0
Listed c fs a = T (among (form (program_of c) (arg_of (table_of c) a)) fs)

-- n is the number of instruction i's operator, and a₁, a₂ and a₃ are its arguments
pub record Read (c : List ℕ) (i n : ℕ) (a₁ a₂ a₃ : Argument) : Type 0 where
  pub instruction : GoodInstruction c i n
  pub first : GoodArgument c (instr_at (program_of c) i).first a₁
  pub second : GoodArgument c (instr_at (program_of c) i).second a₂
  pub third : GoodArgument c (instr_at (program_of c) i).third a₃

-- they have the forms of one list
pub record Shaped (c f₁ f₂ f₃ : List ℕ) (a₁ a₂ a₃ : Argument) : Type 0 where
  pub first : Listed c f₁ a₁
  pub second : Listed c f₂ a₂
  pub third : Listed c f₃ a₃

-- a label, a switch of a type
pub record LabelOf (c : List ℕ) (a : Argument) : Type 0 where
  pub labelled : Labelled a
  pub good : (k : ℕ) → a ≡ Label k → GoodLabel c k

pub record SwitchOf (c : List ℕ) (a : Argument) : Type 0 where
  pub switched : Switched a
  pub good : (k : ℕ) → a ≡ Switch k → GoodSwitch c k
