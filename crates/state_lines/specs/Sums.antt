-- The sum of bytes in hexadecimal.
use Rattle.std.specs.Prelude.{Option, Some, None, cond, List, ℕ, ◌%◌}
use Rattle.lists.specs.Lists.{all}
use Rattle.hexadecimal.specs.Below.Hexadecimal.{is_digit, bytes_in}
use Rattle.hexadecimal.specs.Below.Frames.{sum}
use Rattle.hexadecimal.specs.Digits.{digits_at}

-- of the first n bytes of a line, modulo 256, where these are all digits
unfoldable pub told_sum : List ℕ → ℕ → Option ℕ
told_sum l n = cond (all is_digit (digits_at l 0 n)) (Some (sum (bytes_in (digits_at l 0 n)) % 256)) None
