-- Modules of the crates below, passed on to those above. Declares nothing.
pub use Rattle.machine.proofs.ChangeLaws
pub use Rattle.machine.proofs.RunLaws
pub use Rattle.machine.proofs.StepLaws as MachineStepLaws
pub use Rattle.machine.proofs.SumLaws
pub use Rattle.machine.proofs.ValueLaws
pub use Rattle.machine.proofs.WellFormedLaws
