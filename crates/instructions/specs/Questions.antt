-- The questions that an instruction may answer no, by their numbers, and what is told of an answer.
use Rattle.std.specs.Prelude.{ℕ, Result, Ok, Err}
use Rattle.instructions.specs.declared.Question.{Question}
use Rattle.instructions.specs.declared.Question.TheVariants.{Ended, Missing, Kind, Range, Divisor, Outside, NoCall, NoRecord, Room, Addresses}

abbrev pub question_number : Question → ℕ
question_number Ended = 50
question_number Missing = 52
question_number Kind = 53
question_number Range = 54
question_number Divisor = 55
question_number Outside = 56
question_number NoCall = 57
question_number NoRecord = 58
question_number Room = 59
question_number Addresses = 60

-- 0, or the number of the question answered no
abbrev pub told_by : {X : Type 0} → Result X Question → ℕ
told_by (Ok u) = 0
told_by (Err q) = question_number q
