-- The working memory of 99 strings: a pool of 65,536 bytes, and for each string the two cells where it starts and ends there. The cells
-- never fall; the gaps between the strings hold anything. `abs` is the list of strings that pool and cells hold: 32,768 bytes at most.
use Rattle.std.specs.Prelude.{◌≡◌, List, [], ℕ, ◌+◌, ◌-◌, ◌*◌, ◌≤◌, ◌<◌, length, take, drop, get_or}
use Rattle.cells.specs.Below.LayoutCells.{tab}
use Rattle.cells.specs.Below.Strings.{used}
use Rattle.cells.specs.Below.LayoutPlaces as layout

-- where string i starts and ends
abbrev pub lo : List ℕ → ℕ → ℕ
lo e i = get_or e (2 * i) 0

abbrev pub hi : List ℕ → ℕ → ℕ
hi e i = get_or e (2 * i + 1) 0

unfoldable pub str : List ℕ → List ℕ → ℕ → List ℕ
str p e i = take (hi e i - lo e i) (drop (lo e i) p)

-- the strings
unfoldable pub abs : List ℕ → List ℕ → List (List ℕ)
abs p e = tab layout.strings_count (λ (i : ℕ). str p e i)

-- string i of a list
abbrev pub string : ℕ → List (List ℕ) → List ℕ
string i s = get_or s i []

-- how many bytes the first j strings have
unfoldable pub offset : ℕ → List (List ℕ) → ℕ
offset j s = used (take j s)

pub record Ordered (e : List ℕ) : Type 0 where
  pub cells : length e ≡ layout.ends_count
  pub order : (j k : ℕ) → j ≤ k → k < layout.ends_count → get_or e j 0 ≤ get_or e k 0
  pub last : (k : ℕ) → k < layout.ends_count → get_or e k 0 ≤ 65536

-- pool and cells hold strings
pub record Fine (p e : List ℕ) : Type 0 where
  pub size : length p ≡ 65536
  pub ordered : Ordered e
  pub fits : used (abs p e) ≤ 32768

-- pool and cells hold the strings s
pub record Holds (p e : List ℕ) (s : List (List ℕ)) : Type 0 where
  pub fine : Fine p e
  pub is : abs p e ≡ s
  pub fits : used s ≤ 32768
