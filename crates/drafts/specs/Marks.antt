-- A word of a text by one number: its place and its length.
use Rattle.std.specs.Prelude.{List, ℕ, ◌+◌, ◌-◌, ◌*◌, ◌/◌, ◌%◌, ◌≤◌, length, take, drop}
use Rattle.acceptance.specs.Below.Items.{Item}

-- "Each length within 60?", so the length has a place below 64
abbrev pub mark_of : ℕ → ℕ → ℕ
mark_of at len = at * 64 + len

abbrev pub mark : Item → ℕ
mark i = mark_of i.at (length i.chars)

-- the place, the length and the bytes that a mark names in the text s
abbrev pub place_by : ℕ → ℕ
place_by m = m / 64

abbrev pub length_by : ℕ → ℕ
length_by m = m % 64

unfoldable pub word_by : List ℕ → ℕ → List ℕ
word_by s m = take (length_by m) (drop (place_by m) s)

-- the word of the mark m is in the text s
abbrev pub Marked : List ℕ → ℕ → Type 0
Marked s m = place_by m + length_by m ≤ length s

-- the marks from index a to index b
abbrev pub marks_in : List ℕ → ℕ → ℕ → List ℕ
marks_in ms a b = take (b - a) (drop a ms)
