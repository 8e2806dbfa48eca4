-- Modules of the crates below, passed on to those above. Declares nothing.
pub use Rattle.state_frames.specs.Frames
pub use Rattle.state_frames.specs.Hexadecimal
pub use Rattle.state_frames.specs.Saved
