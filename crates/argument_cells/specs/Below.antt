-- Modules of the crates below, passed on to those above. Declares nothing.
pub use Rattle.entering.specs.Below.CountLaws
pub use Rattle.entering.specs.Below.Finding
pub use Rattle.entering.specs.Below.Head
pub use Rattle.entering.specs.Below.HeadLaws
pub use Rattle.entering.specs.Below.Heads
pub use Rattle.entering.specs.Below.ReadArgument
pub use Rattle.entering.specs.Below.Value
pub use Rattle.entering.specs.Below.Valued
pub use Rattle.entering.specs.Entering
pub use Rattle.entering.specs.EnteringLaws
