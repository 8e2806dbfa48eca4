-- What the functions of the console ask and promise.
use Rattle.std.specs.Prelude.{◌≡◌, List, ℕ, ◌+◌, ◌≤◌, length, take, drop, Option, None, Some, MatchOption}
use Rattle.cells.specs.Cells.{pasted}
use Rattle.machine.specs.Runs.{Answer}
use Rattle.machine.specs.Runs.Answer.{pause, stopped}
use Rattle.console.specs.Console.{text_of, input_of}

-- r parts the text from I1
pub record TextEnd (s : List ℕ) (r : ℕ) : Type 0 where
  pub is : r ≡ length (text_of s)
  pub within : r ≤ length s
  pub text : take r s ≡ text_of s
  pub input : drop r s ≡ input_of s

-- d with x from index `at` on, and the index behind it
pub record Put (d : List ℕ) (at : ℕ) (x e : List ℕ) (r : ℕ) : Type 0 where
  pub is : e ≡ pasted d at x
  pub count : r ≡ at + length x
  pub fits : r ≤ length d

-- among `long` cells there is room from index `at` on for k bytes and a number, which is n
pub record Room (long at k n : ℕ) : Type 0 where
  pub room : at + (k + 8) ≤ long
  pub most : n ≤ 8388607

-- room for the line of a refusal
pub record RefusalRoom (long line : ℕ) : Type 0 where
  pub room : 64 ≤ long
  pub most : line ≤ 8388607

-- a number that stopped a run, if there is one, can be printed
abbrev pub SmallStop : Option ℕ → Type 0
SmallStop stop = MatchOption stop (Unit {0}) (λ n. n ≤ 8388607)

-- room for STOP with a number, or for PAUSE
pub record StopRoom (long at : ℕ) (stop : Option ℕ) : Type 0 where
  pub room : at + 13 ≤ long
  pub most : SmallStop stop

-- room behind Q1 for the last line
pub record EndRoom (long at : ℕ) (stop : Option ℕ) (line count : ℕ) : Type 0 where
  pub room : at + 64 ≤ long
  pub number_most : SmallStop stop
  pub line_most : line ≤ 8388607
  pub count_most : count ≤ 8388607

-- an answer by the number that stopped the run, none for a pause
abbrev pub answer_of : Option ℕ → Answer
answer_of None = pause
answer_of (Some number) = stopped number
