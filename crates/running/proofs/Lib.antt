pub mod Loop
mod Empty
