-- Questions have numbers.
use mathlib.Core.Path.{◌≡◌}
use native.Mathlib.Omega.{arith}
use Rattle.instructions.specs.Questions.{question_number}
use Rattle.instructions.specs.declared.Question.{Question}
use Rattle.instructions.specs.declared.Question.TheVariants.{Ended, Missing, Kind, Range, Divisor, Outside, NoCall, NoRecord, Room, Addresses}

-- none has the number 0
pub some : (q : Question) → question_number q ≡ 0 → ⊥
some Ended e = omega (arith, e)
some Missing e = omega (arith, e)
some Kind e = omega (arith, e)
some Range e = omega (arith, e)
some Divisor e = omega (arith, e)
some Outside e = omega (arith, e)
some NoCall e = omega (arith, e)
some NoRecord e = omega (arith, e)
some Room e = omega (arith, e)
some Addresses e = omega (arith, e)
