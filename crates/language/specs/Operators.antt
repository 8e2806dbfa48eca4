-- The operators of code, as those of programs.
use Rattle.std.specs.Prelude.{◌≡◌, ℕ, ◌<◌, ◌≤◌, Result, IfOk, IsOk}
use Rattle.language.specs.Program.{Op}
use Rattle.language.specs.Instructions.{operator_of, number_of}
use Rattle.language.specs.declared.Operator.{Operator}
use Rattle.language.specs.declared.Operator.TheVariants as code
use Rattle.language.specs.declared.NoOperator.{NoOperator}

abbrev pub op_by : Operator → Op
op_by code.PRZESLIJ = Op.PRZESLIJ
op_by code.CZYTAJ = Op.CZYTAJ
op_by code.PISZ = Op.PISZ
op_by code.KOPIUJ = Op.KOPIUJ
op_by code.WSTAW = Op.WSTAW
op_by code.POBIERZ = Op.POBIERZ
op_by code.SCHOWAJ = Op.SCHOWAJ
op_by code.USTAW = Op.USTAW
op_by code.ZAMIEN = Op.ZAMIEN
op_by code.UMIESC = Op.UMIESC
op_by code.USUN = Op.USUN
op_by code.SKRESL = Op.SKRESL
op_by code.RW = Op.RW
op_by code.WK = Op.WK
op_by code.MN = Op.MN
op_by code.PP = Op.PP
op_by code.NS = Op.NS
op_by code.RZ = Op.RZ
op_by code.SKOCZ = Op.SKOCZ
op_by code.WYKONAJ = Op.WYKONAJ
op_by code.SKOMI = Op.SKOMI
op_by code.SKOPL = Op.SKOPL
op_by code.WYMI = Op.WYMI
op_by code.WYPL = Op.WYPL
op_by code.SKONA = Op.SKONA
op_by code.SKOIN = Op.SKOIN
op_by code.WYNA = Op.WYNA
op_by code.WYIN = Op.WYIN
op_by code.WROC = Op.WROC
op_by code.DODAJ = Op.DODAJ
op_by code.ODEJMIJ = Op.ODEJMIJ
op_by code.MNOZ = Op.MNOZ
op_by code.DZIEL = Op.DZIEL
op_by code.SLOWO = Op.SLOWO
op_by code.LICZBA = Op.LICZBA
op_by code.ZBIJ = Op.ZBIJ
op_by code.ROZBIJ = Op.ROZBIJ
op_by code.SZUKAJ = Op.SZUKAJ
op_by code.OMIN = Op.OMIN
op_by code.COFNIJ = Op.COFNIJ
op_by code.STOP = Op.STOP

-- the numbers of 1 to 41, and no others, are operators'
pub record Numbers (n : ℕ) (r : Result Operator NoOperator) : Type 0 where
  pub is : IfOk r (λ o. op_by o ≡ operator_of n)
  pub number : IfOk r (λ o. number_of (op_by o) ≡ n)
  pub some : 0 < n → n ≤ 41 → IsOk r
