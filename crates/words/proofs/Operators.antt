-- An operator of code is told by its number.
use mathlib.Core.Path.{◌≡◌, refl, ap, sym, ◌∙◌}
use Rattle.language.specs.Instructions.{number_of}
use Rattle.language.specs.Operators.{op_by}
use Rattle.language.specs.declared.Operator.{Operator}
use Rattle.language.specs.declared.Operator.TheVariants as code
use Rattle.words.specs.Operators.{operator_at}

pub operator-back : (o : Operator) → operator_at (number_of (op_by o)) ≡ o
operator-back code.PRZESLIJ = refl
operator-back code.CZYTAJ = refl
operator-back code.PISZ = refl
operator-back code.KOPIUJ = refl
operator-back code.WSTAW = refl
operator-back code.POBIERZ = refl
operator-back code.SCHOWAJ = refl
operator-back code.USTAW = refl
operator-back code.ZAMIEN = refl
operator-back code.UMIESC = refl
operator-back code.USUN = refl
operator-back code.SKRESL = refl
operator-back code.RW = refl
operator-back code.WK = refl
operator-back code.MN = refl
operator-back code.PP = refl
operator-back code.NS = refl
operator-back code.RZ = refl
operator-back code.SKOCZ = refl
operator-back code.WYKONAJ = refl
operator-back code.SKOMI = refl
operator-back code.SKOPL = refl
operator-back code.WYMI = refl
operator-back code.WYPL = refl
operator-back code.SKONA = refl
operator-back code.SKOIN = refl
operator-back code.WYNA = refl
operator-back code.WYIN = refl
operator-back code.WROC = refl
operator-back code.DODAJ = refl
operator-back code.ODEJMIJ = refl
operator-back code.MNOZ = refl
operator-back code.DZIEL = refl
operator-back code.SLOWO = refl
operator-back code.LICZBA = refl
operator-back code.ZBIJ = refl
operator-back code.ROZBIJ = refl
operator-back code.SZUKAJ = refl
operator-back code.OMIN = refl
operator-back code.COFNIJ = refl
operator-back code.STOP = refl

pub same-operator : (o p : Operator) → number_of (op_by o) ≡ number_of (op_by p) → o ≡ p
same-operator o p e = sym (operator-back o) ∙ ap operator_at e ∙ operator-back p
