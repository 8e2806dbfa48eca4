-- The questions of the calls, by their numbers, and what is told with the number of the question.
use Rattle.std.specs.Prelude.{ℕ, Result, Ok, Err}
use Rattle.calls.specs.declared.Question.{Question}
use Rattle.calls.specs.declared.Question.TheVariants as code

abbrev pub question_number : Question → ℕ
question_number code.Size = 40
question_number code.Inputs = 61
question_number code.Table = 62
question_number code.State = 63
question_number code.Conversion = 67
question_number code.Lines = 68
question_number code.Frames = 69
question_number code.Class = 71

abbrev pub numbered : {X : Type 0} → Result X Question → Result X ℕ
numbered (Ok x) = Ok x
numbered (Err q) = Err (question_number q)
