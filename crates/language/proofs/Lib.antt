pub mod EntryLaws
pub mod InstructionLaws
pub mod Below
