-- What load promises: its answer, and every cell of the lent table.
use Rattle.std.specs.Prelude.{◌≡◌, true, List, ℕ, length, take, replicate}
use Rattle.calls.specs.Calls.{table_after}
use Rattle.language.specs.Limits as limit
use Rattle.loading.specs.Texts.{Fit}
use Rattle.loading.specs.Told.{Loaded, numbered, told}
use Rattle.macros.specs.Load.{load_in}
use Rattle.macros.specs.Marks.{has_macros}

-- s are the bytes of the text, c and d the table's cells before and after
pub record Loads (s c : List ℕ) (r : Loaded) (d : List ℕ) : Type 0 where
  pub is : numbered r ≡ told (load_in (length c) s)
  pub cells_are : d ≡ table_after (load_in (length c) s) c

-- a text with macros, on cells that are zeros as far as a table reaches
pub record Rewritable (s c : List ℕ) : Type 0 where
  pub macros : has_macros s ≡ true
  pub fit : Fit s c
  pub zeros : take limit.table c ≡ replicate limit.table 0
