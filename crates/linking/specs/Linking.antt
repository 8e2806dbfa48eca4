-- The second pass: what it asks, and what it answers for the tables of a text.
use Rattle.std.specs.Prelude.{◌≡◌, true, false, Ok, List, [], ◌∷◌, ◌++◌, ℕ, drop}
use Rattle.language.specs.Limits as limit
use Rattle.drafts.specs.Tabled.{Tabled}
use Rattle.statements.specs.StatementAt.{fault_of}
use Rattle.statements.specs.Faults.{Fault, Verdict, verdict_of}
use Rattle.syntax.specs.Ending.{undeclared_labels, undeclared_switches}
use Rattle.syntax.specs.Load.{program_of}
use Rattle.syntax.specs.Tables.{Tables}
use Rattle.syntax.specs.Verdict.{Question, ask, first_no}
use Rattle.writing.specs.Writing.{HoldsProgram}

-- the first pass has left the tables of the text s
pub record Kept (s c sw en : List ℕ) : Type 0 where
  pub lines : List ℕ
  pub tables : Tables
  pub tabled : Tabled s lines tables c sw en

-- r tells the places at fault of those tables
pub record Finds (s c sw en : List ℕ) (places : Tables → List ℕ) (r : Fault) : Type 0 where
  pub is : (lines : List ℕ) (t : Tables) → Tabled s lines t c sw en → r ≡ fault_of (places t)

abbrev pub label_places : Tables → List ℕ
label_places t = undeclared_labels t

abbrev pub switch_places : Tables → List ℕ
switch_places t = undeclared_switches true t ++ undeclared_switches false t

-- the last two questions of a text
abbrev pub last_two : Tables → List Question
last_two t = ask 12 (label_places t) ∷ ask 13 (switch_places t) ∷ []

-- the verdict is told; where it is yes, the cells d hold the program; "cells beyond are neither read nor written"
pub record Links (s c sw en : List ℕ) (r : Verdict) (d : List ℕ) : Type 0 where
  pub verdict_is : (lines : List ℕ) (t : Tables) → Tabled s lines t c sw en → verdict_of r ≡ first_no (last_two t)
  pub holds : r ≡ Ok tt → (lines : List ℕ) (t : Tables) → Tabled s lines t c sw en → HoldsProgram d (program_of lines t)
  pub beyond : drop limit.table d ≡ drop limit.table c
