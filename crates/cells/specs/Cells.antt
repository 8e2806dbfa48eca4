-- Cells of lent memory: a run copied in, a run cleared, and numbers in cells.
use Rattle.std.specs.Prelude.{◌≡◌, List, ◌++◌, ℕ, ◌+◌, ◌≤◌, ◌<◌, length, take, drop, replicate}
pub use Rattle.layout.specs.Cells.{two, two_at, three, three_at}

-- d with the elements of s from index at on
abbrev pub pasted : List ℕ → ℕ → List ℕ → List ℕ
pasted d at s = take at d ++ (s ++ drop (at + length s) d)

-- d with n zeros from index at on
abbrev pub cleared : List ℕ → ℕ → ℕ → List ℕ
cleared d at n = take at d ++ (replicate n 0 ++ drop (at + n) d)

-- r is the number n, which is below top
pub record Number (n top r : ℕ) : Type 0 where
  pub is : r ≡ n
  pub most : r < top

-- among `long` cells there are k from index at on, and n is below top
pub record Writable (at k long n top : ℕ) : Type 0 where
  pub room : at + k ≤ long
  pub most : n < top
