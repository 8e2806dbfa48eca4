-- What a run on the state at work and on lent memory asks and promises.
use Rattle.std.specs.Prelude.{◌≡◌, Option, None, Some, List, ℕ, T}
use Rattle.instructions.specs.Questions.{question_number}
use Rattle.instructions.specs.declared.Question.{Question}
use Rattle.language.specs.Values.{State}
use Rattle.machine.specs.Runs.{Answer, Run, run}
use Rattle.machine.specs.Runs.Answer.{pause, stopped}
use Rattle.machine.specs.Steps.{step}
use Rattle.machine.specs.WellFormed.{good_inputs}
use Rattle.layout.specs.Memory.{state_of, good_memory, written}
use Rattle.layout.specs.Table.{program_of, good_table}
use Rattle.state.specs.Working.{HoldsState}
use Rattle.stepping.specs.Below.Stepping.{inputs}
use Rattle.running.specs.declared.Ran.{Ran}

-- the number of an answer: "pause 81"
abbrev pub answer_number : Answer → ℕ
answer_number pause = 81
answer_number (stopped n) = n

-- the same of the question that stopped a run, none for a pause
abbrev pub stop_number : Option Question → ℕ
stop_number None = 81
stop_number (Some q) = question_number q

-- the run of a program on a state
abbrev pub run_on : List ℕ → List ℕ → List ℕ → ℕ → State → Run State
run_on c i j budget s = run (step (program_of c) (inputs i j)) budget s

-- what is told of a run
pub record Tells (x : Run State) (r : Ran) : Type 0 where
  pub number_is : stop_number r.stopped ≡ answer_number x.answer
  pub count_is : r.count ≡ x.count

pub record RanTo (c i j : List ℕ) (budget : ℕ) (σ : State) (r : Ran) (σ' : State) : Type 0 where
  pub tells : Tells (run_on c i j budget σ) r
  pub holds : HoldsState σ' (run_on c i j budget σ).state

-- a call of run that is not refused
pub record Runnable (c i j m : List ℕ) : Type 0 where
  pub table : T (good_table c)
  pub right : T (good_inputs (inputs i j))
  pub memory : T (good_memory (program_of c) (inputs i j) m)

pub record RanOn (c i j : List ℕ) (budget : ℕ) (m : List ℕ) (r : Ran) (m' : List ℕ) : Type 0 where
  pub tells : Tells (run_on c i j budget (state_of m)) r
  pub is : m' ≡ written (run_on c i j budget (state_of m)).state m
