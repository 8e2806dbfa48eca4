-- Modules of the crates below, passed on to those above. Declares nothing.
pub use Rattle.gaps.proofs.Below.ChangeLaws
pub use Rattle.gaps.proofs.Below.ComponentLaws
pub use Rattle.gaps.proofs.Below.FineLaws
pub use Rattle.gaps.proofs.Below.LayoutCellLaws
pub use Rattle.gaps.proofs.Below.MemoryLaws
pub use Rattle.gaps.proofs.Below.SumLaws
pub use Rattle.gaps.proofs.Index
pub use Rattle.gaps.proofs.Laws as GapsLaws
pub use Rattle.gaps.proofs.Parts as GapsParts
