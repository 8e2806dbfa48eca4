pub mod Fronts
pub mod FirstLaws
pub mod KindLaws
pub mod Walks
pub mod Makings
pub mod Below
