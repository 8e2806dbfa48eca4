-- What the end of a text asks and promises.
use Rattle.std.specs.Prelude.{◌≡◌, Ok, List, ℕ, drop}
use Rattle.statements.specs.Faults.{verdict_of}
use Rattle.statements.specs.Faults.{Verdict}
use Rattle.language.specs.Limits as limit
use Rattle.progress.specs.Progress.{Drafted}
use Rattle.progress.specs.declared.Progress.{Progress}
use Rattle.syntax.specs.Ending.{last_place, last_questions}
use Rattle.syntax.specs.Load.{program_of}
use Rattle.syntax.specs.Tables.{Draft}
use Rattle.syntax.specs.Verdict.{first_no}
use Rattle.writing.specs.Writing.{HoldsProgram}

-- all statements of the text s were read
pub record Finishable (s : List ℕ) (g : Progress) (ms c sw en : List ℕ) : Type 0 where
  pub lines : List ℕ
  pub draft : Draft
  pub drafted : Drafted s lines draft g ms c sw en

-- the verdict of all last questions is told; where it is yes, the cells d hold the program of the text
pub record Finishes (s : List ℕ) (g : Progress) (ms c sw en : List ℕ) (r : Verdict) (d : List ℕ) : Type 0 where
  pub verdict_is : (lines : List ℕ) (t : Draft) → Drafted s lines t g ms c sw en → verdict_of r ≡ first_no (last_questions (last_place s) t)
  pub holds : r ≡ Ok tt → (lines : List ℕ) (t : Draft) → Drafted s lines t g ms c sw en → HoldsProgram d (program_of lines t.tables)
  pub beyond : drop limit.table d ≡ drop limit.table c
