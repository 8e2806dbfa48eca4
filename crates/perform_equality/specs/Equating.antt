-- What the relations of equality ask, RW and RZ. c is the table, i and j are the inputs.
use Rattle.std.specs.Prelude.{◌≡◌, Bool, List, [], ◌∷◌, ℕ, ◌+◌, ◌*◌, T, eqb}
use Rattle.lists.specs.Lists.{among}
use Rattle.lists.specs.Quoted.{bytes}
use Rattle.language.specs.Instructions.{number_of}
use Rattle.language.specs.Program.{Op}
use Rattle.language.specs.Program.Op.{RW, RZ}
use Rattle.language.specs.Letters as letters
use Rattle.language.specs.Letters.{letter_code}
use Rattle.language.specs.Values.{State}
use Rattle.layout.specs.Places as layout
use Rattle.packed.specs.Packed.{table_of}
use Rattle.table.specs.Denote.{letter_of}
use Rattle.table.specs.Reads.{IsArgument}
use Rattle.table.specs.declared.Letter.{Letter}
use Rattle.table.specs.declared.Argument.{Argument}
use Rattle.table.specs.declared.Argument.TheVariants.{Indexed}
use Rattle.decoding.specs.Operands.{Named}
use Rattle.performing.specs.Places.{CarryingAt, PerformingAt}

-- whether a letter is T
abbrev pub any_letter : Letter → Bool
any_letter l = eqb (letter_code (letter_of l)) (letter_code letters.Letter.T)

pub record IsAny (a : Argument) (r : Bool) : Type 0 where
  pub letter : Letter
  pub index : ℕ
  pub is : a ≡ Indexed letter index
  pub any : r ≡ any_letter letter

-- RW of an expression in place i, whose first argument was read as x
pub record RelatingExpression (c : List ℕ) (σ : State) (i : ℕ) (x : Argument) : Type 0 where
  pub carrying : CarryingAt c σ RW i
  pub read : IsArgument (table_of c) (1 + (layout.first_instruction + 4 * i)) x
  pub expression : Named (bytes "ABT") x

-- both
abbrev pub equality_operators : List ℕ
equality_operators = number_of RW ∷ number_of RZ ∷ []

-- one of them, in place k
pub record Equating (c i j : List ℕ) (σ : State) (op : Op) (k : ℕ) : Type 0 where
  pub performing : PerformingAt c i j σ op k
  pub one_of : T (among (number_of op) equality_operators)
