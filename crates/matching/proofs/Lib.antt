pub mod Loops
pub mod Classes
pub mod Counting
pub mod Equals
pub mod OnChars
pub mod Firsts
pub mod Below
