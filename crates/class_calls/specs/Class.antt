-- "One program is run on the work of sixteen students."
use Rattle.std.specs.Prelude.{Bool, ◌&&◌, List, [], ◌∷◌, ◌++◌, ℕ, ◌*◌, eqb, leb, length, get_or, take, drop, replicate}
use Rattle.lists.specs.Lists.{total, each, if_any}
use Rattle.language.specs.Limits as limit
use Rattle.language.specs.Values.{Inputs}
use Rattle.machine.specs.Steps.{Question, refusals}
use Rattle.layout.specs.Memory.{state_of}
use Rattle.layout.specs.Strings.{cut_by}
use Rattle.layout.specs.Table.{good_table}
use Rattle.calls.specs.Calls.{Reply, reply_number, reply_count, Result, start_of, run_of}
use Rattle.calls.specs.Calls.Reply.{refusal, start_accepted, run_paused, run_stopped}

-- "at most 16 lengths"
abbrev pub class : ℕ
class = 16

-- ---- one pupil: "the answer, count, Q1 and its length that a separate start and run would give"

pub record Pupil : Type 0 where
  pub number : ℕ
  pub count : ℕ
  pub q1 : List ℕ

-- "I2 is empty."
abbrev pub inputs_of : List ℕ → Inputs
inputs_of w = w ∷ [] ∷ []

-- Q1 of the state in the cells m
abbrev pub shown : List ℕ → List ℕ
shown m = get_or (state_of m).store.outputs 0 []

-- "A refused input has count 0, an empty Q1"
abbrev pub refused_pupil : ℕ → Pupil
refused_pupil number = record { number = number; count = 0; q1 = [] }

abbrev pub ran_pupil : Result → Pupil
ran_pupil x = record { number = reply_number x.reply; count = reply_count x.reply; q1 = shown x.cells }

-- what is told of a start that gave x, and a run on what it left that gave y
unfoldable pub told_of : Reply → Result → Pupil
told_of (refusal number) y = refused_pupil number
told_of start_accepted y = ran_pupil y
told_of (run_paused count) y = ran_pupil y
told_of (run_stopped number count) y = ran_pupil y

-- the cells of a state memory before a start of its own
abbrev pub empty_memory : List ℕ
empty_memory = replicate limit.state 0

-- a separate start and run, on the table c, the input w, the budget b and the memory m
abbrev pub separately : List ℕ → List ℕ → ℕ → List ℕ → Pupil
separately c w b m =
    told_of (start_of c (inputs_of w) m).reply (run_of c (inputs_of w) b (start_of c (inputs_of w) m).cells)

unfoldable pub pupil : List ℕ → List ℕ → ℕ → Pupil
pupil c w b = separately c w b empty_memory

-- ---- the call: "One call takes a table and up to 16 inputs for I1, laid end to end with their lengths, and one budget for each."

-- all that is lent beside the table: the inputs, their lengths, the budgets, the cells for the results and the bytes for Q1
pub record Lent : Type 0 where
  pub data_in : List ℕ
  pub lengths : List ℕ
  pub budgets : List ℕ
  pub results : List ℕ
  pub out : List ℕ

abbrev pub lent_of : List ℕ → List ℕ → List ℕ → List ℕ → List ℕ → Lent
lent_of s ns bs res out = record { data_in = s; lengths = ns; budgets = bs; results = res; out = out }

abbrev pub sum : List ℕ → ℕ
sum ns = total (λ n. n) ns

-- "at most 16 lengths, as many budgets, the lengths adding up to the bytes given, and in one result buffer, end to end, a part as long as Q may be for each? 71";
-- and three cells for each to write number, count and length to
abbrev pub fits_by : List ℕ → ℕ → ℕ → ℕ → ℕ → Bool
fits_by lens budgets bytes cells room =
    leb (length lens) class && (eqb budgets (length lens) && (eqb (sum lens) bytes && (leb (3 * length lens) cells && leb (limit.output * length lens) room)))

abbrev pub class_fits : Lent → Bool
class_fits x = fits_by x.lengths (length x.budgets) (length x.data_in) (length x.results) (length x.out)

-- "62, then 71, concern all and change nothing"
abbrev pub class_questions : List ℕ → Lent → List Question
class_questions c x = (62, good_table c) ∷ (71, class_fits x) ∷ []

-- each input with its budget
unfoldable pub pupils : List ℕ → List (List ℕ) → List ℕ → List Pupil
pupils c [] bs = []
pupils c (w ∷ ws) [] = []
pupils c (w ∷ ws) (b ∷ bs) = pupil c w b ∷ pupils c ws bs

pub data ClassReply : Type 0 where
  class_refused : ℕ → ClassReply
  taken : List Pupil → ClassReply

unfoldable pub class_of : List ℕ → Lent → ClassReply
class_of c x = if_any (taken (pupils c (cut_by x.lengths x.data_in) x.budgets)) class_refused (refusals (class_questions c x))

abbrev pub class_number : ClassReply → ℕ
class_number (class_refused number) = number
class_number (taken ps) = 80

-- ---- what is written: "in order"

abbrev pub result_cells : Pupil → List ℕ
result_cells p = p.number ∷ p.count ∷ length p.q1 ∷ []

unfoldable pub results_of : List Pupil → List ℕ → List ℕ
results_of ps res = each result_cells ps ++ drop (3 * length ps) res

-- "in one result buffer, end to end, a part as long as Q may be for each"; "Bytes past a Q1 stay."
unfoldable pub outputs_of : List Pupil → List ℕ → List ℕ
outputs_of [] out = out
outputs_of (p ∷ ps) out = (p.q1 ++ drop (length p.q1) (take limit.output out)) ++ outputs_of ps (drop limit.output out)

abbrev pub results_after : ClassReply → List ℕ → List ℕ
results_after (class_refused number) res = res
results_after (taken ps) res = results_of ps res

abbrev pub outputs_after : ClassReply → List ℕ → List ℕ
outputs_after (class_refused number) out = out
outputs_after (taken ps) out = outputs_of ps out
