-- `reading_statements::ending_of` meets its contract.
use Rattle.reading_statements.specs.EndingLaws.{told-first, told-later}
use Rattle.reading_statements.proofs.ending_of.Goals as goal

pub returns-in-Some : goal.returns-in-Some
returns-in-Some c = told-later c.after_fault-after.ensures c.in-Some.is

pub returns-in-None : goal.returns-in-None
returns-in-None c = told-first c.after_fault-after.ensures c.in-None.is c.section_mark.ensures
