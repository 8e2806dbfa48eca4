-- The one table of the 41 instructions: number, word in either edition, flow, the arguments listed for each place (5.1 to 5.10), and kinds. The
-- loader (01, 02, 10), the check of a table (62) and of a state (63), and the machine all use it.
use Rattle.std.specs.Prelude.{Bool, true, false, List, [], ◌∷◌, map, ℕ, pred, get_or}
use Prim.Native.String.{String}
use Rattle.language.specs.Program.{Op}
use Rattle.language.specs.Program.Op.{PRZESLIJ, CZYTAJ, PISZ, KOPIUJ, WSTAW, POBIERZ, SCHOWAJ, USTAW, ZAMIEN, UMIESC, USUN, SKRESL, RW, WK, MN, PP, NS, RZ, SKOCZ, WYKONAJ, SKOMI, SKOPL, WYMI, WYPL, SKONA, SKOIN, WYNA, WYIN, WROC, DODAJ, ODEJMIJ, MNOZ, DZIEL, SLOWO, LICZBA, ZBIJ, ROZBIJ, SZUKAJ, OMIN, COFNIJ, STOP}

-- A form is a character: a letter of an indexed letter, t a text, n a number, c a class, l a label, x an INDEKS switch, w a NAZWA switch,
-- - nothing. A list of forms has the three places of an instruction
abbrev pub Forms : Type 0
Forms = String × String × String

-- whether an instruction falls through to the following one, calls, or never goes on to the following one
pub data Flow : Type 0 where
  through calls ends : Flow

-- "English words are those of the clauses and Appendix E". An instruction has one or two lists of forms; kinds: the pairs of kinds that its two operands may have, where it asks for the kinds of both
pub record Operation : Type 0 where
  pub number : ℕ
  pub name : String
  pub english : String
  pub flow : Flow
  pub forms : List Forms
  pub kinds : List (ℕ × ℕ)

abbrev row : ℕ → String → String → Flow → List Forms → Operation
row n w e f fs = record { number = n; name = w; english = e; flow = f; forms = fs; kinds = [] }

-- with two operands of kinds that are listed (53)
abbrev with_kinds : List (ℕ × ℕ) → Operation → Operation
with_kinds ks o = record { number = o.number; name = o.name; english = o.english; flow = o.flow; forms = o.forms; kinds = ks }

abbrev pub two_words : List (ℕ × ℕ)
two_words = (0, 0) ∷ []

abbrev pub two_numbers : List (ℕ × ℕ)
two_numbers = (1, 1) ∷ []

abbrev pub operation : Op → Operation
operation PRZESLIJ = row 1 "PRZESLIJ" "MOVE" through (("AB", "ABYZ", "-nNctBT") ∷ [])
operation CZYTAJ = row 2 "CZYTAJ" "READ" through (("I", "ABYZ", "-nNctBT") ∷ [])
operation PISZ = row 3 "PISZ" "WRITE" through (("AB", "Q", "-nNctBT") ∷ [])
operation KOPIUJ = row 4 "KOPIUJ" "COPY" through (("CD", "CD", "-nNtBTE") ∷ [])
operation WSTAW = row 5 "WSTAW" "PUT" through (("AB", "CD", "-") ∷ [])
operation POBIERZ = row 6 "POBIERZ" "GET" through (("CD", "ABYZ", "-") ∷ [])
operation SCHOWAJ = row 7 "SCHOWAJ" "SAVE" through (("P", "ABYZ", "-") ∷ [])
operation USTAW = row 8 "USTAW" "RESTORE" through (("AB", "P", "-") ∷ [])
operation ZAMIEN = row 9 "ZAMIEN" "EXCHANGE" through (("E", "E", "-") ∷ ("P", "P", "-") ∷ [])
operation UMIESC = row 10 "UMIESC" "SET" through (("nt", "ABYZCD", "-") ∷ ("t", "Q", "-") ∷ [])
operation USUN = row 11 "USUN" "CLEAR" through (("AI", "-nNctBT", "-") ∷ [])
operation SKRESL = row 12 "SKRESL" "DELETE" through (("C", "-nNtBTE", "-") ∷ [])
operation RW = row 13 "RW" "EQ" through (("ABT", "nN", "-") ∷ ("ABTI", "tcBT", "-") ∷ [])
operation WK = with_kinds two_numbers (row 14 "WK" "GT" through (("B", "nB", "-") ∷ []))
operation MN = with_kinds two_numbers (row 15 "MN" "LT" through (("B", "nB", "-") ∷ []))
operation PP = with_kinds two_words (row 16 "PP" "PR" through (("B", "tB", "-") ∷ []))
operation NS = with_kinds two_words (row 17 "NS" "FL" through (("B", "tB", "-") ∷ []))
operation RZ = row 18 "RZ" "ER" through (("P", "ntBENT", "-") ∷ [])
operation SKOCZ = row 19 "SKOCZ" "GOTO" ends (("l", "-", "-") ∷ [])
operation WYKONAJ = row 20 "WYKONAJ" "CALL" calls (("l", "-", "-") ∷ [])
operation SKOMI = row 21 "SKOMI" "GOMI" through (("l", "-", "-") ∷ [])
operation SKOPL = row 22 "SKOPL" "GOPL" through (("l", "-", "-") ∷ [])
operation WYMI = row 23 "WYMI" "CAMI" calls (("l", "-", "-") ∷ [])
operation WYPL = row 24 "WYPL" "CAPL" calls (("l", "-", "-") ∷ [])
operation SKONA = row 25 "SKONA" "GONA" through (("AB", "w", "-") ∷ [])
operation SKOIN = row 26 "SKOIN" "GOIN" through (("AB", "x", "-") ∷ [])
operation WYNA = row 27 "WYNA" "CANA" calls (("AB", "w", "-") ∷ [])
operation WYIN = row 28 "WYIN" "CAIN" calls (("AB", "x", "-") ∷ [])
operation WROC = row 29 "WROC" "RETURN" ends (("-", "-", "-") ∷ [])
operation DODAJ = with_kinds two_numbers (row 30 "DODAJ" "ADD" through (("A", "nB", "-") ∷ []))
operation ODEJMIJ = with_kinds two_numbers (row 31 "ODEJMIJ" "SUB" through (("A", "nB", "-") ∷ []))
operation MNOZ = with_kinds two_numbers (row 32 "MNOZ" "MULT" through (("A", "nB", "-") ∷ []))
operation DZIEL = with_kinds two_numbers (row 33 "DZIEL" "DIV" through (("A", "nB", "-") ∷ []))
operation SLOWO = row 34 "SLOWO" "WORD" through (("AB", "-", "-") ∷ [])
operation LICZBA = row 35 "LICZBA" "NUMBER" through (("AB", "-", "-") ∷ [])
operation ZBIJ = row 36 "ZBIJ" "COMPRESS" through (("AB", "-nNctBT", "-") ∷ [])
operation ROZBIJ = row 37 "ROZBIJ" "SPLIT" through (("AB", "-nNctBT", "-") ∷ [])
operation SZUKAJ = row 38 "SZUKAJ" "SEARCH" through (("AB", "w", "-") ∷ [])
operation OMIN = row 39 "OMIN" "SHIFT" through (("P", "-nNtBTE", "-") ∷ [])
operation COFNIJ = row 40 "COFNIJ" "RESET" through (("P", "-", "-") ∷ [])
operation STOP = row 41 "STOP" "STOP" ends (("-", "-", "-") ∷ [])

abbrev pub kinds_of : Op → List (ℕ × ℕ)
kinds_of o = (operation o).kinds

-- all of them, by their numbers from 1
abbrev pub operators : List Op
operators =
    PRZESLIJ ∷ CZYTAJ ∷ PISZ ∷ KOPIUJ ∷ WSTAW ∷ POBIERZ ∷ SCHOWAJ ∷ USTAW ∷ ZAMIEN ∷ UMIESC ∷ USUN ∷ SKRESL
    ∷ RW ∷ WK ∷ MN ∷ PP ∷ NS ∷ RZ
    ∷ SKOCZ ∷ WYKONAJ ∷ SKOMI ∷ SKOPL ∷ WYMI ∷ WYPL ∷ SKONA ∷ SKOIN ∷ WYNA ∷ WYIN ∷ WROC
    ∷ DODAJ ∷ ODEJMIJ ∷ MNOZ ∷ DZIEL ∷ SLOWO ∷ LICZBA ∷ ZBIJ ∷ ROZBIJ
    ∷ SZUKAJ ∷ OMIN ∷ COFNIJ ∷ STOP ∷ []

-- their numbers
abbrev pub number_of : Op → ℕ
number_of o = (operation o).number

abbrev pub operator_numbers : List ℕ
operator_numbers = map number_of operators

-- the instruction of a number, STOP where there is none
abbrev pub operator_of : ℕ → Op
operator_of n = get_or operators (pred n) STOP

abbrev pub is_call : Flow → Bool
is_call through = false
is_call calls = true
is_call ends = false

-- "the last of them STOP, SKOCZ or WROC"
abbrev pub is_end : Flow → Bool
is_end through = false
is_end calls = false
is_end ends = true
