-- A text with macros made ready for loading, in rows of bytes and lines.
use Rattle.std.specs.Prelude.{Result, Ok, Err, ◌≡◌, true, List, ℕ, ◌≤◌, length, take}
use Rattle.language.specs.Limits as limit
use Rattle.macros.specs.Marks.{has_macros}
use Rattle.macros.specs.Prepared.{Prepared, prepared}
use Rattle.macros.specs.Prepared.Prepared.{unfit, ready}
use Rattle.macro_code.specs.Places as place
use Rattle.statements.specs.Questions.{question_number}
use Rattle.statements.specs.declared.Rejected.{Rejected}

-- what the answer says, with what the rows hold
abbrev pub made : Result ℕ Rejected → List ℕ → List ℕ → Prepared
made (Ok n) o ls = ready (take n o) (take n ls)
made (Err u) o ls = unfit (question_number u.question) u.line

abbrev pub count_of : Result ℕ Rejected → ℕ
count_of (Ok n) = n
count_of (Err u) = 0

pub record Preparable (s o ls c : List ℕ) : Type 0 where
  pub macros : has_macros s ≡ true
  pub short : length s ≤ limit.text
  pub room : length o ≡ limit.text
  pub lines_room : length ls ≡ limit.text
  pub code_room : length c ≡ place.cells

pub record Prepares (s : List ℕ) (r : Result ℕ Rejected) (o ls c : List ℕ) : Type 0 where
  pub is : made r o ls ≡ prepared s
  pub fits : count_of r ≤ limit.text
  pub size : length o ≡ limit.text
  pub lines_size : length ls ≡ limit.text
  pub code_size : length c ≡ place.cells
