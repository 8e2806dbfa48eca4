-- A statement whose questions before 11 are answered yes comes to the tables.
use Rattle.std.specs.Prelude.{◌≡◌, Bool, List, ℕ, drop, None, Ok, Err}
use Rattle.declaring_switches.specs.declared.Declaration.{Declaration}
use Rattle.language.specs.Limits as limit
use Rattle.lexer.specs.declared.Token.{Token}
use Rattle.statements.specs.Faults.{decided, verdict_of}
use Rattle.statements.specs.Faults.{Fault}
use Rattle.statements.specs.Faults.{Verdict}
use Rattle.declaring_switches.specs.Below.Listed.{Listed}
use Rattle.progress.specs.declared.Progress.{Progress}
use Rattle.reading_statements.specs.declared.Ending.{Ending}

-- the switch with the operator o, the mark of its name and the list that was read
abbrev pub declaration : Token → Bool → ℕ → Listed → Declaration
declaration o named name l = record { at = o.at; begin = o.next; named = named; name = name; list = l }

-- what an instruction or a switch says of the section
abbrev pub unchanged : Progress → Ending
unchanged g = record { section = g.section; after = None }

-- the verdict of the questions before 11, and that of all: where the first is yes, 11 has a fault of which F holds
abbrev pub AskedLast : (Fault → Type 0) → Verdict → Verdict → Type 0
AskedLast F (Ok u) v = (f : Fault) × ((verdict_of v ≡ decided 11 f) × F f)
AskedLast F (Err w) v = v ≡ Err w

pub record Admits (F : Fault → Type 0) (u v : Verdict) (c c' : List ℕ) : Type 0 where
  pub asked : AskedLast F u v
  pub beyond : drop limit.table c' ≡ drop limit.table c
