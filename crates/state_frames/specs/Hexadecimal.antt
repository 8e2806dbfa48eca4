-- Bytes as hexadecimal in capitals, two digits a byte.
use Rattle.std.specs.Prelude.{Bool, false, ◌&&◌, List, [], ◌∷◌, ◌++◌, ℕ, ◌+◌, ◌*◌, ◌/◌, ◌%◌, eqb, get_or}
use Rattle.lists.specs.Lists.{each, ahead, among}
use Rattle.lists.specs.Quoted.{bytes}

-- "hexadecimal in capitals"
abbrev pub digits : List ℕ
digits = bytes "0123456789ABCDEF"

-- the digit of a number below 16, and the number of a digit
unfoldable pub digit : ℕ → ℕ
digit n = get_or digits n 0

unfoldable pub digit_value : ℕ → ℕ
digit_value x = ahead (eqb x) digits

unfoldable pub is_digit : ℕ → Bool
is_digit x = among x digits

abbrev pub two_digits : ℕ → List ℕ
two_digits b = digit (b / 16) ∷ digit (b % 16) ∷ []

unfoldable pub hexadecimal : List ℕ → List ℕ
hexadecimal l = each two_digits l

-- a line: bytes in hexadecimal, "ended by LF"
unfoldable pub line : List ℕ → List ℕ
line l = hexadecimal l ++ (10 ∷ [])

-- ---- reading

-- two digits after two, then LF and nothing more
unfoldable pub is_line : List ℕ → Bool
is_line [] = false
is_line (x ∷ []) = eqb x 10
is_line (x ∷ y ∷ l) = is_digit x && is_digit y && is_line l

-- the bytes of a line
unfoldable pub bytes_in : List ℕ → List ℕ
bytes_in [] = []
bytes_in (x ∷ []) = []
bytes_in (x ∷ y ∷ l) = (16 * digit_value x + digit_value y) ∷ bytes_in l
