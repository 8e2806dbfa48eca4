-- Modules of the crates below, passed on to those above. Declares nothing.
pub use Rattle.layout.proofs.ArgumentLaws as LayoutArgumentLaws
pub use Rattle.layout.proofs.Below.ChangeLaws
pub use Rattle.layout.proofs.Below.SumLaws
pub use Rattle.layout.proofs.Below.ValueLaws
pub use Rattle.layout.proofs.CellLaws as LayoutCellLaws
pub use Rattle.layout.proofs.ComponentLaws
pub use Rattle.layout.proofs.FineLaws
pub use Rattle.layout.proofs.MemoryLaws
pub use Rattle.layout.proofs.ProgramLaws as LayoutProgramLaws
pub use Rattle.layout.proofs.StringLaws
pub use Rattle.layout.proofs.TableLaws
