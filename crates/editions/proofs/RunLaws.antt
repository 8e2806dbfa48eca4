-- "Both texts load to tables that run alike on all inputs, with the same lines": the tables are the same cells, so every call has the same result.
use Rattle.std.specs.Prelude.{◌≡◌, List, ℕ, length}
use Rattle.std.proofs.Common.{ap}
use Rattle.syntax.specs.Load.{Loaded}
use Rattle.macros.specs.Load.{load_in}
use Rattle.calls.specs.Calls.{Call, result_of, table_after}
use Rattle.calls.specs.Filling.Filling.{fills}
use Rattle.editions.specs.Convert.{convert_of}
use Rattle.editions.proofs.ConvertLaws.{same_program}

module _ (n : ℕ) (s t : List ℕ) (h : convert_of n s ≡ fills 80 t) (c : List ℕ) where
  pub same-table : table_after (load_in (length c) t) c ≡ table_after (load_in (length c) s) c
  same-table = ap (λ (l : Loaded). table_after l c) (same_program n s t h (length c))

  pub runs-alike : (x : Call) (m : List ℕ) → result_of (table_after (load_in (length c) t) c) x m ≡ result_of (table_after (load_in (length c) s) c) x m
  runs-alike x m = ap (λ d. result_of d x m) same-table
