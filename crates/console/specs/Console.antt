-- The program on standard input: which of its bytes are the text and which I1, and what it prints.
use Rattle.std.specs.Prelude.{Bool, cond, List, [], ◌∷◌, ◌++◌, ℕ, ◌+◌, ◌/◌, ◌%◌, pos, length, get_or, take, drop}
use Rattle.lists.specs.Lists.{joined, bytes_equal}
use Rattle.lists.specs.Quoted.{bytes}
use Rattle.language.specs.Program.{Program, instr_at}
use Rattle.language.specs.Values.{State, Inputs, decimal}
use Rattle.machine.specs.Runs.{Answer, Run, run}
use Rattle.machine.specs.Runs.Answer.{pause, stopped}
use Rattle.machine.specs.Steps.{step}
use Rattle.machine.specs.WellFormed.{good_inputs, started}
use Rattle.macros.specs.Load.{load_of}
use Rattle.text_lines.specs.Lines.{lines}
use Rattle.syntax.specs.Load.{Loaded}
use Rattle.syntax.specs.Load.Loaded.{refused, accepted}

-- ---- "the text up to the end of the first line starting with KONP (all of it where there is none), the bytes after it being I1"

-- "starting with KONP"
abbrev pub is_last : List ℕ → Bool
is_last l = bytes_equal (take 4 l) (bytes "KONP")

-- the lines up to the first such one, and with it
unfoldable pub through : List (List ℕ) → List (List ℕ)
through [] = []
through (l ∷ ls) = l ∷ cond (is_last l) [] (through ls)

unfoldable pub text_of : List ℕ → List ℕ
text_of s = joined (through (lines s))

unfoldable pub input_of : List ℕ → List ℕ
input_of s = drop (length (text_of s)) s

-- ---- "prints Q1, a new line, and one line"

abbrev pub number_bytes : ℕ → List ℕ
number_bytes n = decimal (pos n)

-- "number in two digits"
abbrev pub two_digits : ℕ → List ℕ
two_digits n = (48 + n / 10 % 10) ∷ (48 + n % 10) ∷ []

-- a word or two and a number
abbrev pub field : List ℕ → ℕ → List ℕ
field name n = name ++ number_bytes n

-- "on a refusal only BLAD, number in two digits, LINE, line (0 where there is none)"
unfoldable pub refusal_line : ℕ → ℕ → List ℕ
refusal_line number line = bytes "BLAD " ++ (two_digits number ++ (field (bytes " LINE ") line ++ (10 ∷ [])))

-- "STOP or PAUSE, for a stop its number"
abbrev pub answer_bytes : Answer → List ℕ
answer_bytes pause = bytes "PAUSE"
answer_bytes (stopped number) = field (bytes "STOP ") number

-- "LINE and the current instruction's line, STEPS and the count"
unfoldable pub end_line : Answer → ℕ → ℕ → List ℕ
end_line x line count = answer_bytes x ++ (field (bytes " LINE ") line ++ (field (bytes " STEPS ") count ++ (10 ∷ [])))

unfoldable pub ran_bytes : Program → Run State → List ℕ
ran_bytes p r = get_or r.state.store.outputs 0 [] ++ (10 ∷ end_line r.answer (instr_at p r.state.next).line r.count)

-- ---- the whole program: "It runs 100,000 steps"

abbrev pub budget : ℕ
budget = 100000

-- start and run on a well-formed program; inputs that are not well formed are refused
unfoldable pub program_bytes : Program → Inputs → List ℕ
program_bytes p ins = cond (good_inputs ins) (ran_bytes p (run (step p ins) budget started)) (refusal_line 61 0)

unfoldable pub loaded_bytes : Inputs → Loaded → List ℕ
loaded_bytes ins (refused number line) = refusal_line number line
loaded_bytes ins (accepted p) = program_bytes p ins

-- all that is printed for the bytes s of standard input; I2 is empty
unfoldable pub printed : List ℕ → List ℕ
printed s = loaded_bytes (input_of s ∷ [] ∷ []) (load_of (text_of s))
