-- A row that is written from its beginning on, as long as there is room.
use Rattle.std.specs.Prelude.{◌≡◌, Option, MatchOption, List, ℕ, ◌+◌, ◌≤◌, ◌<◌, length, take}
use Rattle.cells.specs.Cells.{pasted}

-- the bytes w are the first n of the row c
pub record Written (w : List ℕ) (n : ℕ) (c : List ℕ) : Type 0 where
  pub counted : n ≡ length w
  pub held : take n c ≡ w

-- r tells how many they are; there is none where w is longer than the row
pub record Writes (w : List ℕ) (r : Option ℕ) (c : List ℕ) : Type 0 where
  pub told : MatchOption r (length c < length w) (λ n. Written w n c)

-- d is the row c with the bytes w behind its first n; r is the index behind them
pub record Behind (c : List ℕ) (n : ℕ) (w : List ℕ) (d : List ℕ) (r : ℕ) : Type 0 where
  pub counted : r ≡ n + length w
  pub fits : r ≤ length c
  pub held : d ≡ pasted c n w

-- they do not fit there, and d is the row as it was
pub record Beyond (c : List ℕ) (n : ℕ) (w : List ℕ) (d : List ℕ) : Type 0 where
  pub long : length c < n + length w
  pub held : d ≡ c

-- r is the index behind them; there is none where they do not fit
pub record Appends (c : List ℕ) (n : ℕ) (w : List ℕ) (r : Option ℕ) (d : List ℕ) : Type 0 where
  pub told : MatchOption r (Beyond c n w d) (Behind c n w d)
