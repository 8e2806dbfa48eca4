-- What the calls for C promise: the answer in one number, and the lent cells afterwards.
use Rattle.std.specs.Prelude.{◌≡◌, Result, Ok, Err, List, ℕ, length}
use Rattle.calls.specs.Filling.{Fills}
use Rattle.shorten_calls.specs.Shortening.{shorten_of, table_shortened}
use Rattle.class_calls.specs.Class.{Lent, class_of, class_number, results_after, outputs_after}
use Rattle.calls.specs.Calls as call
use Rattle.calls.specs.Calls.{packed, load_answer, table_after, reply_answer}
use Rattle.calls.specs.Questions.{question_number}
use Rattle.calls.specs.declared.Question.{Question}
use Rattle.class_running.specs.Below.Running.{stop_number}
use Rattle.class_running.specs.Below.Ran.{Ran}
use Rattle.syntax.specs.Load.{Loaded}

-- r is the answer of x, and m is what x leaves in the state memory
pub record Answers (x : call.Result) (r : ℕ) (m : List ℕ) : Type 0 where
  pub answer : r ≡ reply_answer x.reply
  pub cells : m ≡ x.cells

-- the number and the count of a run, or of the first question answered no
abbrev pub ran_number : Result Ran Question → ℕ
ran_number (Ok ran) = stop_number ran.stopped
ran_number (Err q) = question_number q

abbrev pub ran_count : Result Ran Question → ℕ
ran_count (Ok ran) = ran.count
ran_count (Err q) = 0

-- r is the answer of load, and d is what it leaves in the cells c of the table
pub record AnswersLoad (x : Loaded) (c : List ℕ) (r : ℕ) (d : List ℕ) : Type 0 where
  pub answer : r ≡ load_answer x
  pub cells : d ≡ table_after x c

-- r is the answer of the call for a short part of the text s, d what it leaves in the cells c of the table, and b' in the buffer b
pub record AnswersShorten (s c b : List ℕ) (r : ℕ) (d b' : List ℕ) : Type 0 where
  pub fills : Fills (shorten_of (length c) (length b) s) r b b'
  pub cells : d ≡ table_shortened c (length b) s

-- r is the answer of the call for a class, res and out are what it leaves of the results and of the buffer
pub record AnswersClass (c : List ℕ) (x : Lent) (r : ℕ) (res out : List ℕ) : Type 0 where
  pub answer : r ≡ packed (class_number (class_of c x)) 0
  pub results : res ≡ results_after (class_of c x) x.results
  pub outputs : out ≡ outputs_after (class_of c x) x.out
