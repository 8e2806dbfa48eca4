pub mod ArgumentCells
pub mod Below
