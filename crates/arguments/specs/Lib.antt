pub mod Valued
pub mod ValueLaws
pub mod Arguments
pub mod CountLaws
pub mod LeftLaws
pub mod ArgumentLaws
pub mod ReadLaws
pub mod Below
