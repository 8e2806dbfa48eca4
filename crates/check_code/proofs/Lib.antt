mod ByKind
mod Indices
