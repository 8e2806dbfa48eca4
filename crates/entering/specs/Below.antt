-- Modules of the crates below, passed on to those above. Declares nothing.
pub use Rattle.arguments.specs.Below.Head
pub use Rattle.arguments.specs.Below.HeadLaws
pub use Rattle.arguments.specs.Below.Heads
pub use Rattle.arguments.specs.CountLaws
pub use Rattle.arguments.specs.Valued
pub use Rattle.arguments.specs.declared.Quoted
pub use Rattle.arguments.specs.declared.ReadArgument
pub use Rattle.arguments.specs.declared.Value
pub use Rattle.finding.specs.Finding
pub use Rattle.writing.specs.Writing
