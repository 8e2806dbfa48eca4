-- What load, start and run answer, and what they leave in the lent cells. The promises of the three exported calls are equations with these definitions.
use Rattle.std.specs.Prelude.{Bool, cond, List, [], ◌∷◌, ◌++◌, ℕ, ◌+◌, ◌*◌, eqb, drop, replicate}
use Rattle.language.specs.Limits as limit
use Rattle.lists.specs.Lists.{if_any}
use Rattle.language.specs.Values.{State, Inputs}
use Rattle.layout.specs.Below.Runs.{Answer, Run, run}
use Rattle.layout.specs.Below.Runs.Answer.{pause, stopped}
use Rattle.layout.specs.Below.Steps.{Question, refusals, step}
use Rattle.layout.specs.Below.WellFormed.{good_inputs, started}
use Rattle.layout.specs.Memory.{state_of, long_enough, good_memory, written}
use Rattle.layout.specs.Table.{table_cells, program_of, good_table}
use Rattle.macros.specs.Below.SyntaxLoad.{Loaded}
use Rattle.macros.specs.Below.SyntaxLoad.Loaded.{refused, accepted}

-- The answer of a call is one number of 64 bits: the number in the upper 32, the line or the count in the lower
abbrev pub packed : ℕ → ℕ → ℕ
packed number value = number * 4294967296 + value

-- ---- load: what `load_in` makes of the count of the table's cells and the text

-- "Accepted is 80 (load: line 0)"
abbrev pub load_number : Loaded → ℕ
load_number (refused number line) = number
load_number (accepted p) = 80

abbrev pub load_line : Loaded → ℕ
load_line (refused number line) = line
load_line (accepted p) = 0

abbrev pub load_answer : Loaded → ℕ
load_answer x = packed (load_number x) (load_line x)

-- The cells c of the table after load. "After 40 the table stays, after other refusals its 8,192 cells are zeros." "cells beyond are neither read nor written"
unfoldable pub table_after : Loaded → List ℕ → List ℕ
table_after (refused number line) c = cond (eqb number 40) c (replicate limit.table 0 ++ drop limit.table c)
table_after (accepted p) c = table_cells p ++ drop limit.table c

-- ---- start and run, on the cells c of a table and the cells m of a state memory

-- a call of start, or of run with a budget; I1 and I2 are the list of the two
pub data Call : Type 0 where
  start_on : Inputs → Call
  run_on : Inputs → ℕ → Call

abbrev pub call_inputs : Call → Inputs
call_inputs (start_on ins) = ins
call_inputs (run_on ins budget) = ins

-- refused; accepted; of a run its pause or its stop, with "the count of completed instructions"
pub data Reply : Type 0 where
  refusal : ℕ → Reply
  start_accepted : Reply
  run_paused : ℕ → Reply
  run_stopped : ℕ → ℕ → Reply

-- "Accepted is 80 .., pause 81; a refused run counts 0."
abbrev pub reply_number : Reply → ℕ
reply_number (refusal number) = number
reply_number start_accepted = 80
reply_number (run_paused count) = 81
reply_number (run_stopped number count) = number

abbrev pub reply_count : Reply → ℕ
reply_count (refusal number) = 0
reply_count start_accepted = 0
reply_count (run_paused count) = count
reply_count (run_stopped number count) = count

abbrev pub reply_answer : Reply → ℕ
reply_answer x = packed (reply_number x) (reply_count x)

-- what a call answers, and the cells of the state memory after it
pub record Result : Type 0 where
  pub reply : Reply
  pub cells : List ℕ

-- "Table well formed? 62. Inputs short enough and of the 61 characters? 61. State long enough, and for run well formed? 63." Of the 87 characters
-- since request 2.1
abbrev pub memory_passes : List ℕ → Call → List ℕ → Bool
memory_passes c (start_on ins) m = long_enough m
memory_passes c (run_on ins budget) m = good_memory (program_of c) ins m

abbrev pub call_questions : List ℕ → Call → List ℕ → List Question
call_questions c x m = (62, good_table c) ∷ (61, good_inputs (call_inputs x)) ∷ (63, memory_passes c x m) ∷ []

-- "It answers pause, with the budget used up, or a stop; in both cases with the count of completed instructions."
abbrev pub run_reply : Answer → ℕ → Reply
run_reply pause count = run_paused count
run_reply (stopped number) count = run_stopped number count

abbrev pub run_result : Run State → List ℕ → Result
run_result r m = record { reply = run_reply r.answer r.count; cells = written r.state m }

-- "Start then makes H plus, all else empty." Run "takes at most the budget of steps"
abbrev pub accepted_result : List ℕ → Call → List ℕ → Result
accepted_result c (start_on ins) m = record { reply = start_accepted; cells = written started m }
accepted_result c (run_on ins budget) m = run_result (run (step (program_of c) ins) budget (state_of m)) m

-- "the first no decides"; "Refused calls change nothing."
abbrev pub refused_or : Result → List ℕ → List ℕ → Result
refused_or r m numbers = if_any r (λ number. record { reply = refusal number; cells = m }) numbers

unfoldable pub result_of : List ℕ → Call → List ℕ → Result
result_of c x m = refused_or (accepted_result c x m) m (refusals (call_questions c x m))

abbrev pub start_of : List ℕ → Inputs → List ℕ → Result
start_of c ins m = result_of c (start_on ins) m

abbrev pub run_of : List ℕ → Inputs → ℕ → List ℕ → Result
run_of c ins budget m = result_of c (run_on ins budget) m
