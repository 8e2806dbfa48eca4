-- Modules of the crates below, passed on to those above. Declares nothing.
pub use Rattle.declaring.specs.TabledLaws as DeclaringTabledLaws
pub use Rattle.headings.specs.HeadingLaws
pub use Rattle.headings.specs.Headings
pub use Rattle.headings.specs.declared.Rest
