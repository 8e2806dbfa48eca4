-- A program, as load makes it of a text and as the machine runs it.
use Rattle.std.specs.Prelude.{Bool, true, false, ◌&&◌, ◌||◌, List, [], ◌∷◌, ℕ, get_or, ℤ}
use Rattle.characters.specs.Characters.{is_capital, is_digit}
use Rattle.language.specs.Letters.{Letter}
use Rattle.characters.specs.Below.Lists.{all, filled, keep, among, bytes_equal}
use Rattle.characters.specs.Below.Quoted.{bytes}

-- "An argument is an indexed letter, a label, a class, a text, a number or nothing." A label and a switch stand for their places in the
-- program's lists; a class for those of its letters L, D, B, R that stand in it, in this order
pub data Arg : Type 0 where
  nothing : Arg
  letter : Letter → ℕ → Arg
  label : ℕ → Arg
  switch : ℕ → Arg
  class : List ℕ → Arg
  text : List ℕ → Arg
  number : ℤ → Arg

-- an identifier (4.1): a letter, then letters and digits; "Operators and labels stay in capitals."
abbrev pub identifier : List ℕ → Bool
identifier [] = false
identifier (b ∷ w) = is_capital b && all (λ x. is_capital x || is_digit x) w

-- the letters L, D, B, R that stand in a class, in this order
abbrev pub classes : List ℕ → List ℕ
classes w = keep (λ b. among b w) (bytes "LDBR")

-- "Instructions (41)"
pub data Op : Type 0 where
  PRZESLIJ CZYTAJ PISZ KOPIUJ WSTAW POBIERZ SCHOWAJ USTAW ZAMIEN UMIESC USUN SKRESL : Op
  RW WK MN PP NS RZ : Op
  SKOCZ WYKONAJ SKOMI SKOPL WYMI WYPL SKONA SKOIN WYNA WYIN WROC : Op
  DODAJ ODEJMIJ MNOZ DZIEL SLOWO LICZBA ZBIJ ROZBIJ : Op
  SZUKAJ OMIN COFNIJ STOP : Op

-- an instruction, with its operator's line
pub record Instr : Type 0 where
  pub op : Op
  pub line : ℕ
  pub first : Arg
  pub second : Arg
  pub third : Arg

-- a label of an instruction, and the instruction's place, counted from 0
pub record Label : Type 0 where
  pub name : List ℕ
  pub target : ℕ

-- "an entry being a label or `LABEL:'text'`": the label's place, and the text, which is empty where there is none
pub record Entry : Type 0 where
  pub label : ℕ
  pub text : List ℕ

-- by name: NAZWA; otherwise INDEKS
pub record Switch : Type 0 where
  pub goes_by_name : Bool
  pub entries : List Entry

-- texts: the different ones longer than one character; numbers: the different ones beyond 15 in size; both in the order of their first use
pub record Program : Type 0 where
  pub code : List Instr
  pub labels : List Label
  pub switches : List Switch
  pub texts : List (List ℕ)
  pub numbers : List ℤ

-- what stands past the lists' ends
abbrev pub no_instr : Instr
no_instr = record { op = Op.STOP; line = 0; first = Arg.nothing; second = Arg.nothing; third = Arg.nothing }

abbrev pub no_label : Label
no_label = record { name = []; target = 0 }

abbrev pub no_switch : Switch
no_switch = record { goes_by_name = true; entries = [] }

abbrev pub no_entry : Entry
no_entry = record { label = 0; text = [] }

module _ (p : Program) where
  abbrev pub instr_at : ℕ → Instr
  instr_at k = get_or p.code k no_instr

  abbrev pub label_at : ℕ → Label
  label_at k = get_or p.labels k no_label

  abbrev pub switch_at : ℕ → Switch
  switch_at k = get_or p.switches k no_switch

  -- where an entry leads
  abbrev pub target_of : Entry → ℕ
  target_of e = (label_at e.label).target

  -- whether an entry is met by a word: "From now on an entry with a text is met by either", its text or its label's name; one without is met by its
  -- label's name (5.5.3)
  unfoldable pub meets : Entry → List ℕ → Bool
  meets e w = (filled e.text && bytes_equal e.text w) || bytes_equal (label_at e.label).name w
