-- What is known of a list of macros that was read.
use Rattle.std.specs.Prelude.{Bool, List, ℕ, ◌≤◌, ◌<◌, length, get_or}
use Rattle.language.specs.Limits as limit
use Rattle.macro_code.specs.Code.{bytes_at}
use Rattle.macro_code.specs.Known.{Heights, Singles}
use Rattle.macro_code.specs.Places as place

-- the names of the macros are no longer than an item may be
abbrev pub ShortNames : List ℕ → List ℕ → List ℕ → ℕ → Type 0
ShortNames s c f n = (k : ℕ) → k < n → length (bytes_at s c (get_or f k 0)) ≤ limit.item

-- what is known of the rows: the text s, the cells c, the first cells f of n macros, their heights, the quiet ones and the loose ones, and which
-- macros are alone in having their names
pub record Known (s c f : List ℕ) (n : ℕ) (quiet loose : List ℕ) (alone : List Bool) : Type 0 where
  pub text : length s ≤ limit.text
  pub cells : length c ≤ place.cells
  pub few : n ≤ place.macros
  pub names : ShortNames s c f n
  pub heights : Heights s c f n quiet loose
  pub singles : Singles s c f n alone
