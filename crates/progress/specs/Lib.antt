pub mod Closing
pub mod ClosingLaws
pub mod Progress
pub mod ProgressLaws
pub mod Advancing
pub mod AdvancingLaws
pub mod WaitingLaws
pub mod Below
