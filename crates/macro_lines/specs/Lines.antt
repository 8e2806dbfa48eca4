-- What the lines of places are asked with.
use Rattle.std.specs.Prelude.{◌≡◌, List, ℕ, ◌≤◌, length}
use Rattle.language.specs.Limits as limit
use Rattle.macros.proofs.OrderLaws.{Rising}
use Rattle.syntax.specs.Items.{line_of}

-- the line of a place is known, and another place of the text is not before it
pub record Ahead (s : List ℕ) (from line to : ℕ) : Type 0 where
  pub short : length s ≤ limit.text
  pub known : line ≡ line_of s from
  pub forward : from ≤ to
  pub inside : to ≤ length s

-- places of the text in order
pub record Placed (s ps : List ℕ) : Type 0 where
  pub short : length s ≤ limit.text
  pub rising : Rising 0 (length s) ps
