-- Decoded operands: the letters that they stand for, and the inputs by their index.
use Rattle.std.specs.Prelude.{Bool, true, false}
use Rattle.state.specs.Below.Letters.{Letter}
use Rattle.state.specs.Below.Letters.Letter.{A, B, Y, Z}
pub use Rattle.tasks.specs.Inputs.{input_at}

-- the letters that write components: turned round or not, at the end or in front
abbrev pub target : Bool → Bool → Letter
target true true = Y
target false true = Z
target true false = A
target false false = B
