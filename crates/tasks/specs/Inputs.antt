-- The inputs by their index.
use Rattle.std.specs.Prelude.{cond, List, ℕ, eqb}

-- of two inputs, the one of this index
abbrev pub input_at : List ℕ → List ℕ → ℕ → List ℕ
input_at a b i = cond (eqb i 0) a b
