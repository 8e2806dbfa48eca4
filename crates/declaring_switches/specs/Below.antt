-- Modules of the crates below, passed on to those above. Declares nothing.
pub use Rattle.declaring.specs.Below.ArgumentCells
pub use Rattle.declaring.specs.Below.Entering
pub use Rattle.declaring.specs.Declaring
pub use Rattle.declaring.specs.SpeltLaws
pub use Rattle.declaring.specs.TabledLaws as DeclaringTabledLaws
pub use Rattle.declaring.specs.declared.Instruction
pub use Rattle.switch_lists.specs.Below.Arguments
pub use Rattle.switch_lists.specs.Below.ArgumentsTypeArguments
pub use Rattle.switch_lists.specs.Below.CountLaws
pub use Rattle.switch_lists.specs.SwitchLaws
pub use Rattle.switch_lists.specs.Switches as SwitchListsSwitches
pub use Rattle.switch_lists.specs.declared.Listed
pub use Rattle.switch_lists.specs.Below.Quoted
