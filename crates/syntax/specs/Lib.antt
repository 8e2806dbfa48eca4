-- The loader. Bytes to items and statements (Items); a statement's parts (Statements); how arguments are read by their places (ArgumentForms);
-- questions and how they decide (Verdict); what is known after some statements (Tables); the questions of each statement (Questions) and of
-- the whole text (Ending); load itself (Load). Then a sample and examples; what loops over places find (Scan), the laws for proofs of code, and
-- what small letters (SmallLetters) and the names of labels (ReservedLaws) are in a text.
pub mod Items
pub mod Statements
pub mod ArgumentForms
pub mod Verdict
pub mod Tables
pub mod Questions
pub mod Ending
pub mod Load
pub mod Sample
pub mod Examples
pub mod Scan
pub mod SmallLetters
pub mod Below
