-- The state at rest: the 40,960 bytes of a state, and the state that bytes read as (docs/LAYOUT.md has the same in words).
use Rattle.std.specs.Prelude.{Bool, cond, ◌&&◌, List, [], ◌∷◌, ◌++◌, map, ℕ, zero, suc, ◌+◌, ◌*◌, leb, eqb, length, get_or, take, drop}
use Rattle.machine.specs.Below.Limits as limit
use Rattle.machine.specs.Below.Lists.{each, bytes_equal}
use Rattle.machine.specs.Below.Program.{Program}
use Rattle.machine.specs.Below.LanguageValues.{File, Store, State, Inputs, chars}
use Rattle.machine.specs.Changes.{held, recorded}
use Rattle.machine.specs.WellFormed.{good_state}
use Rattle.layout.specs.Cells.{two, three, three_at}
use Rattle.layout.specs.Components.{components_bytes, records_bytes, components_in, records_in}
use Rattle.layout.specs.Strings.{string_cells, strings_in}
use Rattle.layout.specs.Places as layout

-- ---- writing

-- the totals that limits are judged by
abbrev pub components_held : Store → ℕ
components_held s = held (λ x. 1) s

abbrev pub chars_held : Store → ℕ
chars_held s = held (λ x. length (chars x)) s

abbrev pub records_held : Store → ℕ
records_held s = recorded (λ r. 1) s

-- H (1 for plus), the read places of I1 and I2, the next instruction, the last address given, and the totals
abbrev pub scalars : State → List ℕ
scalars s =
    cond s.store.plus 1 0 ∷ get_or s.store.places 0 0 ∷ get_or s.store.places 1 0 ∷ s.next ∷ s.store.last
    ∷ components_held s.store ∷ chars_held s.store ∷ records_held s.store ∷ []

-- a file is two strings, the records before the pointer and those after it
unfoldable pub file_strings : List File → List (List ℕ)
file_strings [] = []
file_strings (f ∷ fs) = records_bytes f.before ∷ records_bytes f.after ∷ file_strings fs

-- 99 strings: E1 to E32, P1 to P32, the return stack, Q1 and Q2
unfoldable pub strings : State → List (List ℕ)
strings s = map components_bytes s.store.exprs ++ (file_strings s.store.files ++ (each two s.stack ∷ s.store.outputs))

-- "unused cells are zero"
unfoldable pub state_cells : State → List ℕ
state_cells s = each three (scalars s) ++ string_cells (strings s)

-- ---- reading

-- n numbers of three cells
unfoldable pub threes_in : ℕ → List ℕ → List ℕ
threes_in zero m = []
threes_in (suc n) m = three_at 0 m ∷ threes_in n (drop 3 m)

unfoldable pub files_in : ℕ → List (List ℕ) → List File
files_in zero vs = []
files_in (suc n) vs = record { before = records_in (get_or vs 0 []); after = records_in (get_or vs 1 []) } ∷ files_in n (drop 2 vs)

unfoldable pub twos_in : List ℕ → List ℕ
twos_in [] = []
twos_in (x ∷ []) = []
twos_in (x ∷ y ∷ l) = (x + 256 * y) ∷ twos_in l

-- the state of 99 strings and eight scalars
unfoldable pub state_by : List (List ℕ) → List ℕ → State
state_by vs ns =
    record {
      store = record {
        exprs = map components_in (take limit.expressions vs);
        files = files_in limit.files (drop layout.first_file vs);
        plus = eqb (get_or ns layout.plus_scalar 0) 1;
        outputs = drop layout.first_output vs;
        places = get_or ns layout.first_place 0 ∷ get_or ns layout.second_place 0 ∷ [];
        last = get_or ns layout.last_scalar 0;
      };
      next = get_or ns layout.next_scalar 0;
      stack = twos_in (get_or vs layout.stack_string []);
    }

unfoldable pub state_in : List ℕ → State
state_in m = state_by (strings_in (drop layout.first_length m)) (threes_in layout.scalars_count m)

-- ---- question 63

-- the state of a lent memory; "cells beyond are neither read nor written"
unfoldable pub state_of : List ℕ → State
state_of m = state_in (take limit.state m)

-- "State long enough"
abbrev pub long_enough : List ℕ → Bool
long_enough m = leb limit.state (length m)

-- "and for run well formed": its cells are those of the state that they read as, and that state is well formed
unfoldable pub good_memory : Program → Inputs → List ℕ → Bool
good_memory p ins m = long_enough m && bytes_equal (state_cells (state_of m)) (take limit.state m) && good_state p ins (state_of m)

-- the memory after a call that leaves the state s; cells beyond stay
unfoldable pub written : State → List ℕ → List ℕ
written s m = state_cells s ++ drop limit.state m
