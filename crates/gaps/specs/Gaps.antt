-- The gaps between the strings, and how strings are laid into the pool. The gap i is the one before string i; the gap 99 is behind the last.
use Rattle.std.specs.Prelude.{◌≡◌, List, ◌++◌, ℕ, ◌+◌, ◌-◌, ◌*◌, ◌≤◌, ◌<◌, length, get_or, set}
use Rattle.cells.specs.Cells.{pasted}
use Rattle.cells.specs.Below.Strings.{used}
use Rattle.cells.specs.Below.LayoutPlaces as layout
use Rattle.gaps.specs.Pool.{lo, hi, str, abs, string, Ordered, Fine, Holds}

-- no cell before the gap i is more than r, and none behind it is less
pub record GapStart (e : List ℕ) (i r : ℕ) : Type 0 where
  pub all : (k : ℕ) → k < 2 * i → get_or e k 0 ≤ r
  pub most : r ≤ 65536

pub record GapEnd (e : List ℕ) (i r : ℕ) : Type 0 where
  pub all : (k : ℕ) → 2 * i ≤ k → k < layout.ends_count → r ≤ get_or e k 0
  pub most : r ≤ 65536

-- the gap i has room for n bytes
pub record Gap (e : List ℕ) (i n : ℕ) : Type 0 where
  pub low : ℕ
  pub high : ℕ
  pub before : GapStart e i low
  pub after : GapEnd e i high
  pub room : low + n ≤ high

pub record Edge (e : List ℕ) (i : ℕ) : Type 0 where
  pub ordered : Ordered e
  pub index : i ≤ layout.strings_count

-- n bytes can be put at string i, into the gap g
pub record Roomy (p e : List ℕ) (i g n : ℕ) : Type 0 where
  pub fine : Fine p e
  pub index : i < layout.strings_count
  pub gap : Gap e g n
  pub total : used (abs p e) + n ≤ 32768

unfoldable pub pushed_front : ℕ → List ℕ → List (List ℕ) → List (List ℕ)
pushed_front i b s = set s i (b ++ string i s)

unfoldable pub pushed_back : ℕ → List ℕ → List (List ℕ) → List (List ℕ)
pushed_back i b s = set s i (string i s ++ b)

-- bytes can be laid into the pool from `at` on, as string j
pub record Layable (p e : List ℕ) (j at n : ℕ) : Type 0 where
  pub index : j < layout.strings_count
  pub cells : length e ≡ layout.ends_count
  pub within : at + n ≤ 65536
  pub size : 65536 ≤ length p

pub record LaidOne (p e : List ℕ) (j at : ℕ) (b p' e' : List ℕ) : Type 0 where
  pub pool : p' ≡ pasted p at b
  pub ends : e' ≡ set (set e (2 * j) at) (2 * j + 1) (at + length b)

-- string j lies in the pool p
pub record Lies (p e : List ℕ) (j : ℕ) : Type 0 where
  pub index : j < layout.strings_count
  pub cells : length e ≡ layout.ends_count
  pub ordered : lo e j ≤ hi e j
  pub most : hi e j ≤ length p

-- string j of the pool p can be laid into the pool q from `at` on, and was, up to r
pub record Carriable (p e q : List ℕ) (j at : ℕ) : Type 0 where
  pub index : j < layout.strings_count
  pub cells : length e ≡ layout.ends_count
  pub ordered : lo e j ≤ hi e j
  pub most : hi e j ≤ length p
  pub within : at + (hi e j - lo e j) ≤ 65536
  pub size : 65536 ≤ length q

pub record Carried (p e q : List ℕ) (j at r : ℕ) (q' e' : List ℕ) : Type 0 where
  pub ends : r ≡ at + (hi e j - lo e j)
  pub laid : LaidOne q e j at (str p e j) q' e'

-- r is n where j is i, and 0 elsewhere
pub record Extra (j i n r : ℕ) : Type 0 where
  pub here : j ≡ i → r ≡ n
  pub most : r ≤ n
  pub else : (j ≡ i → ⊥) → r ≡ 0

-- the strings that lie in q can be copied to the same places in the pool p, and the first j were
pub record Settleable (p e q : List ℕ) : Type 0 where
  pub ordered : Ordered e
  pub size : length p ≡ 65536
  pub spare : 65536 ≤ length q

pub record Settled (p e q : List ℕ) (j : ℕ) : Type 0 where
  pub upto : j ≤ layout.strings_count
  pub size : length p ≡ 65536
  pub is : (k : ℕ) → k < j → str p e k ≡ str q e k

-- the strings can be laid out with n bytes more in the gap i
pub record Spreadable (p e : List ℕ) (i n scratch : ℕ) : Type 0 where
  pub fine : Fine p e
  pub index : i ≤ layout.strings_count
  pub total : used (abs p e) + n ≤ 33856
  pub spare : 65536 ≤ scratch

-- n bytes more are allowed, and the gap i is to have room for them
pub record Wanted (p e : List ℕ) (i n scratch : ℕ) : Type 0 where
  pub fine : Fine p e
  pub index : i ≤ layout.strings_count
  pub total : used (abs p e) + n ≤ 32768
  pub spare : 65536 ≤ scratch

-- the strings are s, and the gap i has room
pub record Made (p e : List ℕ) (s : List (List ℕ)) (i n : ℕ) : Type 0 where
  pub holds : Holds p e s
  pub gap : Gap e i n
