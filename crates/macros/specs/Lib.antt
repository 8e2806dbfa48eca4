-- Macros ("2.2 Macros", chapter 7 of the manual). Where a text's joining apostrophes stand, its items and the questions 14 to 16 of the whole
-- (Marks); elements and stretches (Elements); calls, and the pieces of a body or of the section (Pieces); the list of macros (Macros); what a call
-- writes (Expansion); the questions 64 to 66, and the text as it is loaded (Prepared); examples. What is known of a body without its arguments
-- (Silence), and which bytes may be joined (Cleanness). Then the laws.
pub mod Marks
pub mod Elements
pub mod Pieces
pub mod Macros
pub mod Conditions
pub mod Expansion
pub mod Prepared
pub mod Examples
pub mod Silence
pub mod Cleanness
pub mod Load
pub mod Outside
pub mod Below
