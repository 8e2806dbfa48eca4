pub mod RecordEquality
pub mod Below
