-- What the functions of the class ask and promise.
use Rattle.std.specs.Prelude.{◌≡◌, Result, Ok, Err, List, [], ◌∷◌, ℕ, ◌+◌, ◌≤◌, T, length}
use Rattle.language.specs.Limits as limit
use Rattle.layout.specs.Table.{good_table}
use Rattle.cells.specs.Cells.{pasted}
use Rattle.viewing.specs.Viewing.{Rests}
use Rattle.class_calls.specs.Class.{Pupil, shown, Lent, lent_of, class_fits, pupils, ClassReply, class_of, result_cells, results_of, results_after, outputs_of, outputs_after}
use Rattle.layout.specs.Strings.{cut_by}
use Rattle.class_calls.specs.Class.ClassReply.{class_refused, taken}
use Rattle.calls.specs.Filling.{Taken}
use Rattle.calls.specs.Questions.{question_number, numbered}
use Rattle.calls.specs.declared.Question.{Question}
use Rattle.running.specs.Running.{stop_number}
use Rattle.class_running.specs.declared.Told.{Told}

-- a state at rest, and a part of a buffer as long as Q may be
pub record Showable (m : List ℕ) (at bytes : ℕ) : Type 0 where
  pub rests : Rests m
  pub room : at + limit.output ≤ bytes

pub record Shown (m b : List ℕ) (at r : ℕ) (b' : List ℕ) : Type 0 where
  pub is : b' ≡ pasted b at (shown m)
  pub length_is : r ≡ length (shown m)

-- a well-formed table, a memory for a state, and a part of the buffer
pub record Seated (c : List ℕ) (memory at bytes : ℕ) : Type 0 where
  pub table : T (good_table c)
  pub long : memory ≡ limit.state
  pub room : at + limit.output ≤ bytes

-- the three cells of a pupil: number, count and the length of Q1
abbrev pub told_cells : Result Told Question → List ℕ
told_cells (Ok t) = stop_number t.ran.stopped ∷ t.ran.count ∷ t.length ∷ []
told_cells (Err q) = question_number q ∷ 0 ∷ 0 ∷ []

-- what is told of a pupil, and its Q1 in its part of the buffer
pub record Answered (p : Pupil) (b : List ℕ) (at : ℕ) (r : Result Told Question) (b' : List ℕ) : Type 0 where
  pub told_is : told_cells r ≡ result_cells p
  pub is : b' ≡ pasted b at p.q1

-- a call that is taken
pub record Classable (c s ns bs res out : List ℕ) (memory : ℕ) : Type 0 where
  pub table : T (good_table c)
  pub fits : T (class_fits (lent_of s ns bs res out))
  pub long : memory ≡ limit.state

pub record Written (c s ns bs res out res' out' : List ℕ) : Type 0 where
  pub results_are : res' ≡ results_of (pupils c (cut_by ns s) bs) res
  pub outputs_are : out' ≡ outputs_of (pupils c (cut_by ns s) bs) out

-- ---- the whole call

-- the class is taken, or the number of the first no
abbrev pub taken_by : ClassReply → Result (Unit {0}) ℕ
taken_by (class_refused number) = Err number
taken_by (taken ps) = Ok tt

pub record Classes (c : List ℕ) (x : Lent) (r : Taken) (res' out' : List ℕ) : Type 0 where
  pub is : numbered r ≡ taken_by (class_of c x)
  pub results_are : res' ≡ results_after (class_of c x) x.results
  pub outputs_are : out' ≡ outputs_after (class_of c x) x.out
