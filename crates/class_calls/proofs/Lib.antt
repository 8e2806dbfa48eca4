pub mod ClassLaws
pub mod FitLaws
pub mod UnawareLaws
pub mod WritingLaws
