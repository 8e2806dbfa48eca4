-- The program of an accepted text is well formed. What holds of the draft while no question has a fault (Drafts), from the reader's items
-- (ReaderLaws), the arguments' forms (Reading, ReadingLaws, ArgumentLaws), the tables' new entries (FreshLaws) and a statement's parts
-- (StatementLaws): every statement without faults keeps it (DraftLaws). Then the program's parts (ProgramLaws) and the theorem (AcceptanceLaws);
-- and none of the text's labels is a keyword (NameLaws).
pub mod Reading
pub mod Drafts
pub mod Switches
pub mod Below
