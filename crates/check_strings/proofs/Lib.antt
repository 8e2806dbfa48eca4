pub mod ComponentWalks
pub mod RecordWalks
pub mod Sizes
