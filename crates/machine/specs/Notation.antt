-- Ways to write an example down: a few instructions, a store before them, and the run that they give.
use Rattle.std.specs.Prelude.{true, false, List, [], ◌∷◌, ◌++◌, ℕ, length, replicate, ℤ, pos, neg_ℤ}
use Prim.Native.String.{String}
use Rattle.language.specs.Below.Quoted.{bytes}
use Rattle.language.specs.Letters.Letter.{E, P}
use Rattle.language.specs.Program.{Arg, Op, Instr, Label, Entry, Program, no_instr}
use Rattle.language.specs.Program.Arg.{letter}
use Rattle.language.specs.Values.{Component, Record, Store, State, Inputs}
use Rattle.language.specs.Values.Component.{word}
use Rattle.machine.specs.Changes.{with_files, with_plus, with_outputs, with_places, put_expr, put_file}
use Rattle.machine.specs.Runs.{Run, ran, run}
use Rattle.machine.specs.Runs.Answer.{pause, stopped}
use Rattle.machine.specs.Steps.{step}
use Rattle.machine.specs.WellFormed.{started}

-- Components, and a record of one word

abbrev pub w : String → Component
w t = word (bytes t)

abbrev pub n : ℤ → Component
n z = Component.number z

abbrev pub rec : ℕ → String → Record
rec k t = record { addr = k; parts = w t ∷ [] }

abbrev pub neg : ℕ → ℤ
neg k = neg_ℤ (pos k)

-- Arguments

abbrev pub num : ℕ → Arg
num k = Arg.number (pos k)

abbrev pub txt : String → Arg
txt t = Arg.text (bytes t)

-- Stores: the empty one, and one with a value changed

abbrev pub start : Store
start = started.store

abbrev pub E_is : ℕ → List Component → Store → Store
E_is k xs s = put_expr (letter E k) xs s

-- the records before the pointer and after it
abbrev pub P_is : ℕ → List Record → List Record → Store → Store
P_is k xs ys s = put_file (letter P k) xs ys s

abbrev pub last_is : ℕ → Store → Store
last_is k s = with_files s.files k s

abbrev pub H_minus : Store → Store
H_minus s = with_plus false s

-- the read place of I1
abbrev pub I1_at : ℕ → Store → Store
I1_at k s = with_places (k ∷ 0 ∷ []) s

abbrev pub Q1_is : String → Store → Store
Q1_is t s = with_outputs (bytes t ∷ [] ∷ []) s

-- Instructions are written without their lines. They stand in front of STOPs; labels and switches are those of 5.5 and 5.8

abbrev pub does : Op → Arg → Arg → Arg → Instr
does o a b c = record { op = o; line = 1; first = a; second = b; third = c }

abbrev name_at : String → ℕ → Label
name_at t k = record { name = bytes t; target = k }

abbrev entry : ℕ → String → Entry
entry k t = record { label = k; text = bytes t }

-- the places of the labels ALFA, IF, PLUS and BEGIN, then of LX: INDEKS ALFA, IF, BEGIN, of KLUCZ: NAZWA IF, PLUS:'+', BEGIN, and of
-- ZNAK: NAZWA PLUS:'+', IF:'PLUS', BEGIN:'+'
abbrev pub program : List Instr → Program
program code =
    record {
      code = code ++ replicate 8 no_instr;
      labels = name_at "ALFA" 4 ∷ name_at "IF" 5 ∷ name_at "PLUS" 6 ∷ name_at "BEGIN" 7 ∷ [];
      switches =
          record { goes_by_name = false; entries = entry 0 "" ∷ entry 1 "" ∷ entry 3 "" ∷ [] }
          ∷ record { goes_by_name = true; entries = entry 1 "" ∷ entry 2 "+" ∷ entry 3 "" ∷ [] }
          ∷ record { goes_by_name = true; entries = entry 2 "+" ∷ entry 1 "PLUS" ∷ entry 3 "+" ∷ [] }
          ∷ [];
      texts = [];
      numbers = [];
    }

pub record Example : Type 0 where
  pub code : List Instr
  pub inputs : Inputs
  pub before : Store
  pub gives : Run State

-- a state: its next instruction, its return stack, its store
abbrev pub state : ℕ → List ℕ → Store → State
state k st s = record { store = s; next = k; stack = st }

-- what the instructions of an example give, one after the other
abbrev pub result : Example → Run State
result x = run (step (program x.code) x.inputs) (length x.code) (state 0 [] x.before)

-- one instruction that goes on, one that jumps or calls, one that stops
abbrev pub on_to : Store → Run State
on_to s = ran pause 1 (state 1 [] s)

abbrev pub jumps_to : ℕ → List ℕ → Store → Run State
jumps_to k st s = ran pause 1 (state k st s)

abbrev pub stops_with : ℕ → Store → Run State
stops_with k s = ran (stopped k) 0 (state 0 [] s)

abbrev pub example : Op → Arg → Arg → Arg → Store → Run State → Example
example o a b c s r = record { code = does o a b c ∷ []; inputs = [] ∷ [] ∷ []; before = s; gives = r }
