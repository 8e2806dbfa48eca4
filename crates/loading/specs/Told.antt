-- What load answers, as a result.
use Rattle.std.specs.Prelude.{Result, Ok, Err, ℕ}
use Rattle.statements.specs.Questions.{question_number}
use Rattle.statements.specs.declared.Rejected.{Rejected}
use Rattle.syntax.specs.Load as spec

-- the text is accepted, or the first question answered no, and its line
abbrev pub Loaded : Type 0
Loaded = Result (Unit {0}) Rejected

-- the same with the question by its number
abbrev pub Numbered : Type 0
Numbered = Result (Unit {0}) (ℕ × ℕ)

abbrev pub numbered : Loaded → Numbered
numbered (Ok u) = Ok tt
numbered (Err r) = Err (question_number r.question, r.line)

abbrev pub told : spec.Loaded → Numbered
told (spec.Loaded.refused number line) = Err (number, line)
told (spec.Loaded.accepted p) = Ok tt

-- "Accepted is 80 (load: line 0)"
abbrev pub loaded_number : Loaded → ℕ
loaded_number (Ok u) = 80
loaded_number (Err r) = question_number r.question

abbrev pub loaded_line : Loaded → ℕ
loaded_line (Ok u) = 0
loaded_line (Err r) = r.line
