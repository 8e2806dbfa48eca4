-- What the instructions of numbers and words ask. c is the table.
use Rattle.std.specs.Prelude.{List, [], ◌∷◌, ℕ, T}
use Rattle.lists.specs.Lists.{among}
use Rattle.language.specs.Instructions.{number_of}
use Rattle.language.specs.Program.{Op}
use Rattle.language.specs.Program.Op.{WK, MN, PP, NS, DODAJ, ODEJMIJ, MNOZ, DZIEL, SLOWO, LICZBA}
use Rattle.language.specs.Values.{State}
use Rattle.performing.specs.Places.{CarryingAt}

-- WK, MN, PP and NS; DODAJ, ODEJMIJ, MNOZ, DZIEL, SLOWO and LICZBA
abbrev pub value_operators : List ℕ
value_operators =
    number_of WK ∷ number_of MN ∷ number_of PP ∷ number_of NS
    ∷ number_of DODAJ ∷ number_of ODEJMIJ ∷ number_of MNOZ ∷ number_of DZIEL ∷ number_of SLOWO ∷ number_of LICZBA ∷ []

-- any of them, in place i
pub record Valuing (c : List ℕ) (σ : State) (op : Op) (i : ℕ) : Type 0 where
  pub carrying : CarryingAt c σ op i
  pub one_of : T (among (number_of op) value_operators)
