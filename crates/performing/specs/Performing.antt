-- What the functions that carry out one instruction ask: the instruction was read of a well-formed table, and the state is well formed.
use Rattle.std.specs.Prelude.{Bool, true, false, List, ℕ}
use Rattle.decoding.specs.Operands.{Read}
use Rattle.instructions.specs.Does.{Does, Goes}
use Rattle.language.specs.Instructions.{number_of}
use Rattle.language.specs.Program.{Op}
use Rattle.language.specs.Program.Op.{PRZESLIJ, CZYTAJ, PISZ, KOPIUJ, WSTAW, POBIERZ, SCHOWAJ, USTAW, ZAMIEN, UMIESC, USUN, SKRESL, RW, WK, MN, PP, NS, RZ, SKOCZ, WYKONAJ, SKOMI, SKOPL, WYMI, WYPL, SKONA, SKOIN, WYNA, WYIN, WROC, DODAJ, ODEJMIJ, MNOZ, DZIEL, SLOWO, LICZBA, ZBIJ, ROZBIJ, SZUKAJ, OMIN, COFNIJ, STOP}
use Rattle.language.specs.Values.{State}
use Rattle.layout.specs.Table.{program_of}
use Rattle.machine.specs.Effects.{Row}
use Rattle.machine.specs.Steps.{meaning}
use Rattle.table.specs.declared.Argument.{Argument}
use Rattle.performing.specs.Stepping.{inputs, Steppable}

-- the jumps, calls and returns, and STOP: instructions that do not always go on to the following one
abbrev pub leads : Op → Bool
leads PRZESLIJ = false
leads CZYTAJ = false
leads PISZ = false
leads KOPIUJ = false
leads WSTAW = false
leads POBIERZ = false
leads SCHOWAJ = false
leads USTAW = false
leads ZAMIEN = false
leads UMIESC = false
leads USUN = false
leads SKRESL = false
leads RW = false
leads WK = false
leads MN = false
leads PP = false
leads NS = false
leads RZ = false
leads SKOCZ = true
leads WYKONAJ = true
leads SKOMI = true
leads SKOPL = true
leads WYMI = true
leads WYPL = true
leads SKONA = true
leads SKOIN = true
leads WYNA = true
leads WYIN = true
leads WROC = true
leads DODAJ = false
leads ODEJMIJ = false
leads MNOZ = false
leads DZIEL = false
leads SLOWO = false
leads LICZBA = false
leads ZBIJ = false
leads ROZBIJ = false
leads SZUKAJ = false
leads OMIN = false
leads COFNIJ = false
leads STOP = true

-- the next instruction has the operator op and the arguments x, y and z
pub record Performing (c i j : List ℕ) (σ : State) (op : Op) (x y z : Argument) : Type 0 where
  pub ready : Steppable c i j σ
  pub read : Read c σ.next (number_of op) x y z

-- what it means
abbrev pub next_row : List ℕ → List ℕ → List ℕ → State → Row
next_row c i j σ = meaning (program_of c) (inputs i j) σ

-- it was carried out, but for the step to the following instruction
abbrev pub Performs : List ℕ → List ℕ → List ℕ → State → ℕ → State → Type 0
Performs c i j σ told σ' = Does σ told σ' (next_row c i j σ)

-- it was carried out, and the next instruction is set
abbrev pub Leads : List ℕ → List ℕ → List ℕ → State → ℕ → State → Type 0
Leads c i j σ told σ' = Goes σ told σ' (next_row c i j σ)
