-- Questions 62 and 61 of every call that is lent a table and inputs.
use Rattle.std.specs.Prelude.{◌≡◌, cond, List, [], ◌∷◌, ℕ, Result, Ok, Err}
use Rattle.std.specs.Result.{MatchResult}
use Rattle.language.specs.Values.{Inputs}
use Rattle.layout.specs.Table.{good_table}
use Rattle.machine.specs.WellFormed.{good_inputs}
use Rattle.calls.specs.Questions.{question_number}
use Rattle.calls.specs.declared.Question.{Question}
use Rattle.tasks.specs.declared.Task.{Task}

-- 0, or the number of the question answered no
abbrev pub told_by : {X : Type 0} → Result X Question → ℕ
told_by (Ok u) = 0
told_by (Err q) = question_number q

-- the number of the first that is answered no: 62 of the table, then 61 of the inputs; 0 where there is none
abbrev pub first_no : List ℕ → Inputs → ℕ
first_no c ins = cond (good_table c) (cond (good_inputs ins) 0 61) 62

-- t has the table c and the inputs i and j
pub record Has (c i j : List ℕ) (t : Task) : Type 0 where
  pub table : t.table.cells.now ≡ c
  pub first : t.first.now ≡ i
  pub second : t.second.now ≡ j

-- r is the first question answered no of the table c and the inputs i and j, or the task that they are
pub record Asks (c i j : List ℕ) (r : Result Task Question) : Type 0 where
  pub is : told_by r ≡ first_no c (i ∷ j ∷ [])
  pub task : MatchResult r (Has c i j) (λ _. Unit {0})
