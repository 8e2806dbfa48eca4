-- "Here, in 2.6, 2.7 and 2.13 a call that fills a buffer gives its number, 80 if accepted, and the count of bytes written." What such a call
-- answers, and what it leaves in the lent buffer.
use Rattle.std.specs.Prelude.{◌≡◌, Result, Ok, Err, cond, List, ◌++◌, ℕ, eqb, length, drop}
use Rattle.calls.specs.Calls.{packed}
use Rattle.calls.specs.Questions.{question_number, numbered}
use Rattle.calls.specs.declared.Question.{Question}

-- a number, "with the buffer unchanged"; or a number, and the bytes written
pub data Filling : Type 0 where
  kept : ℕ → Filling
  fills : ℕ → List ℕ → Filling

abbrev pub filling_number : Filling → ℕ
filling_number (kept number) = number
filling_number (fills number t) = number

abbrev pub filling_count : Filling → ℕ
filling_count (kept number) = 0
filling_count (fills number t) = length t

abbrev pub filling_answer : Filling → ℕ
filling_answer x = packed (filling_number x) (filling_count x)

-- the buffer b after the call: "else its rest stays"
unfoldable pub filled_in : Filling → List ℕ → List ℕ
filled_in (kept number) b = b
filled_in (fills number t) b = t ++ drop (length t) b

-- the answer r, and the buffer's bytes before and after
pub record Fills (x : Filling) (r : ℕ) (b b' : List ℕ) : Type 0 where
  pub answer : r ≡ filling_answer x
  pub cells : b' ≡ filled_in x b

-- ---- the same as a result: the count of bytes written, or the first question answered no

abbrev pub Filled : Type 0
Filled = Result ℕ Question

abbrev pub filled_of : Filling → Result ℕ ℕ
filled_of (kept number) = Err number
filled_of (fills number t) = Ok (length t)

-- "its number, 80 if accepted"
abbrev pub filled_number : Filled → ℕ
filled_number (Ok n) = 80
filled_number (Err q) = question_number q

abbrev pub filled_count : {E : Type 0} → Result ℕ E → ℕ
filled_count (Ok n) = n
filled_count (Err q) = 0

pub record Gives (x : Filling) (r : Filled) (b b' : List ℕ) : Type 0 where
  pub result_is : numbered r ≡ filled_of x
  pub number_is : filled_number r ≡ filling_number x
  pub cells_are : b' ≡ filled_in x b

-- ---- the same of a call that fills none

abbrev pub Taken : Type 0
Taken = Result (Unit {0}) Question

abbrev pub taken_number : Taken → ℕ
taken_number (Ok u) = 80
taken_number (Err q) = question_number q

-- what is told by a number, 80 if accepted
abbrev pub taken_with : ℕ → Result (Unit {0}) ℕ
taken_with n = cond (eqb n 80) (Ok tt) (Err n)
