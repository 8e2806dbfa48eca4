-- A state whose variables, limits or control are changed within the bounds is fine.
use mathlib.Core.Path.{◌≡◌}
use mathlib.Core.Bool.{Bool}
use mathlib.Core.List.{List}
use Prim.Native.Nat.{ℕ, ◌≤◌, ◌<◌}
use lib.ListN.{length}
use Rattle.store.specs.Below.Limits as limit
use Rattle.store.specs.Below.LanguageValues.{Component, File, State}
use Rattle.store.specs.Below.Changes.{with_exprs, with_files, held, recorded}
use Rattle.store.specs.Below.LayoutBounds.{Each, Below, Ok, FileOk, Fine}
use Rattle.store.specs.Below.LayoutMemory.{components_held, chars_held, records_held}
use Rattle.state.specs.Working.{on_store}

module _ (s : State) (f : Fine s) where
  -- other expressions
  pub fine-exprs : (es : List (List Component)) → length es ≡ limit.expressions → Each (Each Ok) es
      → components_held (with_exprs es s.store) ≤ limit.components → chars_held (with_exprs es s.store) ≤ limit.characters
      → Fine (on_store (with_exprs es) s)
  unfolding on_store with_exprs recorded
  fine-exprs es long ok c d =
      record {
        exprs_is = long;
        files_is = f.files_is;
        outputs_is = f.outputs_is;
        places_is = f.places_is;
        exprs_ok = ok;
        files_ok = f.files_ok;
        outputs_ok = f.outputs_ok;
        places_ok = f.places_ok;
        stack_ok = f.stack_ok;
        stack_most = f.stack_most;
        next_below = f.next_below;
        last_most = f.last_most;
        components_most = c;
        chars_most = d;
        records_most = f.records_most;
      }

  -- other files, and another last address
  pub fine-files : (fs : List File) (m : ℕ) → length fs ≡ limit.files → Each FileOk fs → m ≤ limit.addresses
      → components_held (with_files fs m s.store) ≤ limit.components → chars_held (with_files fs m s.store) ≤ limit.characters
      → records_held (with_files fs m s.store) ≤ limit.records → Fine (on_store (with_files fs m) s)
  unfolding on_store with_files
  fine-files fs m long ok last c d r =
      record {
        exprs_is = f.exprs_is;
        files_is = long;
        outputs_is = f.outputs_is;
        places_is = f.places_is;
        exprs_ok = f.exprs_ok;
        files_ok = ok;
        outputs_ok = f.outputs_ok;
        places_ok = f.places_ok;
        stack_ok = f.stack_ok;
        stack_most = f.stack_most;
        next_below = f.next_below;
        last_most = last;
        components_most = c;
        chars_most = d;
        records_most = r;
      }

  -- another H, other outputs, read places, next instruction and stack
  pub fine-beside : (b : Bool) (os : List (List ℕ)) (ps : List ℕ) (n : ℕ) (st : List ℕ)
      → length os ≡ limit.outputs → Each (λ q. length q ≤ limit.output) os → length ps ≡ limit.inputs → Each (λ k. k ≤ limit.input) ps
      → n < limit.instructions → Below limit.instructions st → length st ≤ limit.stack
      → Fine (record { store = record { exprs = s.store.exprs; files = s.store.files; plus = b; outputs = os; places = ps; last = s.store.last }; next = n; stack = st })
  unfolding held recorded
  fine-beside b os ps n st outputs outputs_ok places places_ok next stack_ok stack =
      record {
        exprs_is = f.exprs_is;
        files_is = f.files_is;
        outputs_is = outputs;
        places_is = places;
        exprs_ok = f.exprs_ok;
        files_ok = f.files_ok;
        outputs_ok = outputs_ok;
        places_ok = places_ok;
        stack_ok = stack_ok;
        stack_most = stack;
        next_below = next;
        last_most = f.last_most;
        components_most = f.components_most;
        chars_most = f.chars_most;
        records_most = f.records_most;
      }
