-- The length of a frame's contents, as its line l tells it.
use Rattle.std.specs.Prelude.{◌≡◌, Some, List, ℕ, ◌+◌, ◌*◌, ◌≤◌, length, get_or}
use Rattle.hexadecimal.specs.Digits.{byte_by, told_byte}

-- the two bytes that tell it are there
pub record Measured (l : List ℕ) : Type 0 where
  pub there : 8 ≤ length l
  pub high : told_byte (get_or l 4 0) (get_or l 5 0) ≡ Some (byte_by (get_or l 4 0) (get_or l 5 0))
  pub low : told_byte (get_or l 6 0) (get_or l 7 0) ≡ Some (byte_by (get_or l 6 0) (get_or l 7 0))

-- the high byte comes first
abbrev pub contents_length : List ℕ → ℕ
contents_length l = 256 * byte_by (get_or l 4 0) (get_or l 5 0) + byte_by (get_or l 6 0) (get_or l 7 0)
