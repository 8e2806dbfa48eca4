pub mod Calls
pub mod TableLaws
pub mod FaultLaws
pub mod KeptLaws
