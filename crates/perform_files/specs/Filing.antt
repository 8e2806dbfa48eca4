-- What the instructions of files and constants ask. c is the table.
use Rattle.std.specs.Prelude.{List, [], ◌∷◌, ℕ, T}
use Rattle.lists.specs.Lists.{among}
use Rattle.language.specs.Instructions.{number_of}
use Rattle.language.specs.Program.{Op}
use Rattle.language.specs.Program.Op.{KOPIUJ, WSTAW, POBIERZ, SCHOWAJ, USTAW, ZAMIEN, UMIESC, SKRESL, OMIN, COFNIJ}
use Rattle.language.specs.Values.{State}
use Rattle.perform_pointers.specs.Below.Places.{CarryingAt}

-- KOPIUJ, WSTAW, POBIERZ, SCHOWAJ, USTAW, ZAMIEN, UMIESC, SKRESL, OMIN and COFNIJ
abbrev pub file_operators : List ℕ
file_operators =
    number_of KOPIUJ ∷ number_of WSTAW ∷ number_of POBIERZ ∷ number_of SCHOWAJ ∷ number_of USTAW ∷ number_of ZAMIEN ∷ number_of UMIESC
    ∷ number_of SKRESL ∷ number_of OMIN ∷ number_of COFNIJ ∷ []

-- any of them, in place i
pub record Filing (c : List ℕ) (σ : State) (op : Op) (i : ℕ) : Type 0 where
  pub carrying : CarryingAt c σ op i
  pub one_of : T (among (number_of op) file_operators)
