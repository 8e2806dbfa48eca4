-- Numbers as words: what the functions ask and tell.
use Rattle.std.specs.Prelude.{◌≡◌, List, ℕ, ◌+◌, ◌≤◌, ◌<◌, length}
use Rattle.cells.specs.Cells.{pasted}
use Rattle.language.specs.Values.{digits}

-- how many digits n has
pub record Width (n r : ℕ) : Type 0 where
  pub is : r ≡ length (digits 7 n)
  pub some : 0 < r
  pub most : r ≤ 7

-- among `long` cells there is room from index at on for the digits of n
pub record DigitsRoom (long at n : ℕ) : Type 0 where
  pub room : at + 7 ≤ long
  pub most : n < 10000000

-- d with the digits of n from index at on, and the index behind them
pub record DigitsPut (d : List ℕ) (at n : ℕ) (e : List ℕ) (r : ℕ) : Type 0 where
  pub is : e ≡ pasted d at (digits 7 n)
  pub count : r ≡ at + length (digits 7 n)
  pub fits : r ≤ length d
