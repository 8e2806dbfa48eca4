-- What the writing of blocks asks.
use Rattle.std.specs.Prelude.{ℕ, ◌+◌, ◌≤◌, ◌<◌}

-- among `long` cells there are four from index at on, and each of the four numbers fits a cell
pub record FourNumbers (at long a b c d : ℕ) : Type 0 where
  pub room : at + 4 ≤ long
  pub a_most : a < 4294967296
  pub b_most : b < 4294967296
  pub c_most : c < 4294967296
  pub d_most : d < 4294967296
