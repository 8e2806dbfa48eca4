-- The operators of programs, as those of code.
use Rattle.std.specs.Prelude.{List, [], ◌∷◌, ℕ, ◌-◌, get_or}
use Rattle.language.specs.Instructions.{number_of}
use Rattle.language.specs.Program.{Op}
use Rattle.language.specs.declared.Operator.{Operator}
use Rattle.language.specs.declared.Operator.TheVariants as code

-- in the order of their numbers, from 1
abbrev pub operators : List Operator
operators =
    code.PRZESLIJ ∷ code.CZYTAJ ∷ code.PISZ ∷ code.KOPIUJ ∷ code.WSTAW ∷ code.POBIERZ ∷ code.SCHOWAJ ∷ code.USTAW ∷
    code.ZAMIEN ∷ code.UMIESC ∷ code.USUN ∷ code.SKRESL ∷ code.RW ∷ code.WK ∷ code.MN ∷ code.PP ∷
    code.NS ∷ code.RZ ∷ code.SKOCZ ∷ code.WYKONAJ ∷ code.SKOMI ∷ code.SKOPL ∷ code.WYMI ∷ code.WYPL ∷
    code.SKONA ∷ code.SKOIN ∷ code.WYNA ∷ code.WYIN ∷ code.WROC ∷ code.DODAJ ∷ code.ODEJMIJ ∷ code.MNOZ ∷
    code.DZIEL ∷ code.SLOWO ∷ code.LICZBA ∷ code.ZBIJ ∷ code.ROZBIJ ∷ code.SZUKAJ ∷ code.OMIN ∷ code.COFNIJ ∷
    code.STOP ∷ []

abbrev pub operator_at : ℕ → Operator
operator_at n = get_or operators (n - 1) code.STOP

abbrev pub operator_in : Op → Operator
operator_in o = operator_at (number_of o)
