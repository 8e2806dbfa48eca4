-- Modules of the crates below, passed on to those above. Declares nothing.
pub use Rattle.arguments.specs.Arguments
pub use Rattle.arguments.specs.CountLaws
pub use Rattle.arguments.specs.Valued
pub use Rattle.arguments.specs.declared.Arguments as ArgumentsTypeArguments
pub use Rattle.arguments.specs.declared.Quoted
pub use Rattle.heads.specs.HeadLaws
