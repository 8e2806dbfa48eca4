-- What is asked before question 63, and what its tests are told. c is the table, i and j are the inputs, m is the 40,960 cells.
use Rattle.std.specs.Prelude.{◌≡◌, Bool, ◌&&◌, List, [], ◌∷◌, ℕ, T, length}
use Rattle.check_memory.specs.Passes.{laid, sound, counted, distinct, fitting}
use Rattle.language.specs.Limits as limit
use Rattle.layout.specs.Table.{program_of, good_table}
use Rattle.machine.specs.WellFormed.{good_inputs}

-- questions 62 and 61 were answered yes
pub record Asked (c i j : List ℕ) : Type 0 where
  pub table : T (good_table c)
  pub inputs : T (good_inputs (i ∷ j ∷ []))

-- there are places for the addresses
pub record Workable (c m : List ℕ) (addresses : ℕ) : Type 0 where
  pub table : T (good_table c)
  pub long : length m ≡ limit.state
  pub addresses_is : addresses ≡ limit.records

abbrev pub passes : List ℕ → List ℕ → List ℕ → List ℕ → Bool
passes c i j m = laid m && (sound m && (counted m && (distinct m && fitting (program_of c) i j m)))
