-- What is written of a row, and what fits it.
use Rattle.std.specs.Prelude.{List, ℕ, ◌≤◌, length}
use Rattle.std.proofs.Common.{arith}
use Rattle.appending.specs.Appending.{Written}

pub written-within : {w : List ℕ} {n : ℕ} {c : List ℕ} → Written w n c → n ≤ length c → length w ≤ length c
written-within g h = omega (arith, g.counted, h)
