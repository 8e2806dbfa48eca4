pub mod Console
pub mod Parts
pub mod ConsoleLaws
