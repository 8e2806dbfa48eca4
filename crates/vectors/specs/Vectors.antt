-- What a vector is read with, and when it passes.
use Rattle.std.specs.Prelude.{◌≡◌, Bool, List, ℕ, min, ◌≤◌, length, take}
use Rattle.lists.specs.Lists.{bytes_equal}
use Rattle.layout.specs.Cells.{three_at}
use Rattle.batch.specs.Printed.{printed_most}
use Rattle.console.specs.Console.{printed}

-- a head of 64 bytes, and room for what is printed
pub record Buffers (head out : ℕ) : Type 0 where
  pub head_is : head ≡ 64
  pub room : printed_most ≤ out

-- whether the program prints what is expected
abbrev pub prints_as : List ℕ → List ℕ → Bool
prints_as input expected = bytes_equal (printed input) expected

-- what is read into a buffer: as many bytes as the head tells at a place, and no more than there is room for
abbrev pub told : List ℕ → ℕ → List ℕ → List ℕ
told head at buffer = take (min (three_at at head) (length buffer)) buffer

-- of a head and what then was read into the two buffers
abbrev pub passes_as : List ℕ → List ℕ → List ℕ → Bool
passes_as head input expected = prints_as (told head 56 input) (told head 60 expected)
