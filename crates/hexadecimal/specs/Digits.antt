-- Two digits as a byte, and a run of digits as bytes.
use Rattle.std.specs.Prelude.{◌≡◌, Option, Some, None, cond, ◌&&◌, List, ℕ, ◌+◌, ◌*◌, ◌/◌, ◌≤◌, T, take, drop}
use Rattle.std.specs.Option.{is_some}
use Rattle.lists.specs.Lists.{all}
use Rattle.cells.specs.Cells.{pasted}
use Rattle.state_frames.specs.Hexadecimal.{digit_value, is_digit, bytes_in}

-- the byte of two digits
abbrev pub byte_by : ℕ → ℕ → ℕ
byte_by x y = 16 * digit_value x + digit_value y

-- the number of a digit, and the byte of two, where they are digits
unfoldable pub told_digit : ℕ → Option ℕ
told_digit x = cond (is_digit x) (Some (digit_value x)) None

unfoldable pub told_byte : ℕ → ℕ → Option ℕ
told_byte x y = cond (is_digit x && is_digit y) (Some (byte_by x y)) None

-- `long` cells are two for each byte, and there is room for the bytes from index at on
pub record Gettable (room at long : ℕ) : Type 0 where
  pub fits : at + long / 2 ≤ room
  pub even : 2 * (long / 2) ≡ long

-- the cells that are n bytes in hexadecimal from `at` on
abbrev pub digits_at : List ℕ → ℕ → ℕ → List ℕ
digits_at text at n = take (2 * n) (drop at text)

-- r is there where the cells s are all digits; then their bytes stand in d' from index at on
pub record Got (d : List ℕ) (at : ℕ) (s : List ℕ) (r : Option (Unit {0})) (d' : List ℕ) : Type 0 where
  pub told : is_some r ≡ all is_digit s
  pub bytes : T (is_some r) → d' ≡ pasted d at (bytes_in s)
