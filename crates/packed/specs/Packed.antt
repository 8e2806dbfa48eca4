-- Characters in the cells of a program table, four to a cell, the first in the lowest bits; a name or a text has 15 cells. What the functions ask and promise.
use Rattle.std.specs.Prelude.{◌≡◌, List, ◌++◌, ℕ, ◌+◌, ◌≤◌, ◌<◌, length, take, drop}
use Rattle.cells.specs.Below.LayoutCells.{unfours}
use Rattle.cells.specs.Below.Limits as limit

-- the cells of a lent table; "cells beyond are neither read nor written"
abbrev pub table_of : List ℕ → List ℕ
table_of c = take limit.table c

-- the first n characters in a row of cells
abbrev pub row_chars : List ℕ → ℕ → List ℕ
row_chars r n = take n (unfours r)

-- fewer than four bytes of a word of n are left from k on
pub record Rest (k n : ℕ) : Type 0 where
  pub from : k ≤ n
  pub few : n < k + 4

-- fewer than four bytes go to index k of m
pub record RestRoom (k n m : ℕ) : Type 0 where
  pub few : n < 4
  pub room : k + n ≤ m

-- the characters v, r of them, were copied to the front of o, which is z now
pub record Copied (v o z : List ℕ) (r : ℕ) : Type 0 where
  pub count : r ≡ length v
  pub short : r ≤ 60
  pub is : z ≡ v ++ drop (length v) o
