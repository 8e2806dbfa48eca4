-- A text on its way through the loader: what the functions between a statement and load ask and promise.
use Rattle.std.specs.Prelude.{◌≡◌, Ok, Err, List, [], ℕ, ◌≤◌, length, take, drop}
use Rattle.calls.specs.Calls.{table_after}
use Rattle.drafts.specs.Tabled.{Tabled}
use Rattle.statements.specs.Faults.{Verdict}
use Rattle.language.specs.Limits as limit
use Rattle.language.specs.Program.{Program}
use Rattle.finishing.specs.Below.Progress.{Drafted}
use Rattle.finishing.specs.Below.ProgressTypeProgress.{Progress}
use Rattle.reading_statements.specs.ReadingStatements.{Read}
use Rattle.statements.specs.Questions.{question_number}
use Rattle.statements.specs.declared.Question.{Question}
use Rattle.statements.specs.declared.Refusal.{Refusal}
use Rattle.statements.specs.declared.Rejected.{Rejected}
use Rattle.syntax.specs.Ending.{last_place}
use Rattle.syntax.specs.Items.{line_at, lines_of}
use Rattle.syntax.specs.Load as spec
use Rattle.syntax.specs.Load.{load_from, Lined, text_loads}
use Rattle.syntax.specs.Tables.{Draft, blank}
use Rattle.writing.specs.Writing.{HoldsProgram, Cleared, no_program}
use Rattle.loading.specs.Told.{Loaded, numbered, told}

-- ---- the lines of a text

pub record Fillable (s l : List ℕ) : Type 0 where
  pub short : length s ≤ limit.text
  pub room : length s ≤ length l

abbrev pub Fills : List ℕ → List ℕ → Type 0
Fills s l = take (length s) l ≡ lines_of s

-- ---- all statements

-- nothing was read yet
pub record Unread (s lines c sw en : List ℕ) : Type 0 where
  pub short : length s ≤ limit.text
  pub lined : Lined lines
  pub tabled : Tabled s lines blank.tables c sw en

-- g and the cells are those of a draft, from which the text still loads to the same
pub record ReadTo (s lines : List ℕ) (g : Progress) (ms c sw en : List ℕ) : Type 0 where
  pub draft : Draft
  pub drafted : Drafted s lines draft g ms c sw en
  pub left : text_loads s lines ≡ load_from lines (last_place s) draft []

pub record ReadsText (s lines c : List ℕ) (r : Read) (ms' c' sw' en' : List ℕ) : Type 0 where
  pub refused : (e : Refusal) → r ≡ Err e → text_loads s lines ≡ spec.Loaded.refused (question_number e.question) (line_at lines e.at)
  pub read : (g : Progress) → r ≡ Ok g → ReadTo s lines g ms' c' sw' en'
  pub beyond : drop limit.table c' ≡ drop limit.table c

-- ---- the whole text, on a table that is all zeros

pub record Loadable (s lines c : List ℕ) : Type 0 where
  pub short : length s ≤ limit.text
  pub lined : Lined lines
  pub holds : HoldsProgram c no_program

pub record Accepts (s lines d : List ℕ) : Type 0 where
  pub program : Program
  pub is : text_loads s lines ≡ spec.Loaded.accepted program
  pub holds : HoldsProgram d program

pub record LoadsText (s lines c : List ℕ) (r : Verdict) (d : List ℕ) : Type 0 where
  pub refused : (f : Refusal) → r ≡ Err f → text_loads s lines ≡ spec.Loaded.refused (question_number f.question) (line_at lines f.at)
  pub accepted : r ≡ Ok tt → Accepts s lines d
  pub beyond : drop limit.table d ≡ drop limit.table c

-- ---- a refusal

-- question and line, and zeros
pub record Refuses (lines : List ℕ) (question : Question) (at : ℕ) (c : List ℕ) (r : Rejected) (d : List ℕ) : Type 0 where
  pub question_is : r.question ≡ question
  pub line_is : r.line ≡ line_at lines at
  pub cleared : Cleared c d

-- ---- the whole text, on any table that is long enough

pub record Lent (s lines c : List ℕ) : Type 0 where
  pub short : length s ≤ limit.text
  pub lined : Lined lines
  pub long : limit.table ≤ length c

-- r is the answer of x, and d is what x leaves in the cells c of the table
pub record Leaves (x : spec.Loaded) (c : List ℕ) (r : Loaded) (d : List ℕ) : Type 0 where
  pub is : numbered r ≡ told x
  pub cells_are : d ≡ table_after x c

-- the same of a text as it stands, with its own lines
pub record Fit (s c : List ℕ) : Type 0 where
  pub short : length s ≤ limit.text
  pub long : limit.table ≤ length c
