-- A name or an argument in its cells: its bytes as typed, and the argument of the call around it that its parameter stands for.
use Rattle.std.specs.Prelude.{Option, ◌≡◌, Bool, true, false, cond, List, [], ℕ, zero, suc, ◌+◌, ◌-◌, ◌≤◌, ◌<◌, eqb, ltb, get_or}
use Rattle.std.specs.Option.{MatchOption}
use Rattle.macro_code.specs.Bounds.{far}
pub use Rattle.macro_code.specs.Bounds.{reach}
use Rattle.macro_code.specs.Code.{high, low, bytes_at, argument_count, argument_cell}
use Rattle.macro_code.specs.Places as place

abbrev pub kind_of : List ℕ → ℕ → ℕ
kind_of c g = high c (g + place.kind_cell)

abbrev pub number_in : List ℕ → ℕ → ℕ
number_in c g = low c (g + place.kind_cell)

unfoldable pub own : List ℕ → List ℕ → ℕ → List ℕ
own s c g = cond (eqb (kind_of c g) place.parameter_kind) [] (bytes_at s c g)

unfoldable pub goes_up : List ℕ → List ℕ → ℕ → ℕ → Bool
goes_up c calls zero g = false
goes_up c calls (suc d) g = cond (eqb (kind_of c g) place.typed_kind) false (ltb (number_in c g) (argument_count c (get_or calls d 0)))

abbrev pub next_cell : List ℕ → List ℕ → ℕ → ℕ → ℕ
next_cell c calls d g = argument_cell (get_or calls d 0) (number_in c g)

-- whether the last of d calls has an argument of that number
unfoldable pub has_argument : List ℕ → List ℕ → ℕ → ℕ → Bool
has_argument c calls zero k = false
has_argument c calls (suc d) k = ltb k (argument_count c (get_or calls d 0))

-- the argument of that number of the last of d calls, if it has one
abbrev pub ArgumentOf : List ℕ → List ℕ → ℕ → ℕ → Option ℕ → Type 0
ArgumentOf c calls d k r =
    MatchOption r (has_argument c calls d k ≡ false) (λ i. (has_argument c calls d k ≡ true) × (1 ≤ d) × (i ≡ argument_cell (get_or calls (d - 1) 0) k) × (i < far))

-- the argument that a parameter within d calls stands for, if it stands for one
abbrev pub Above : List ℕ → List ℕ → ℕ → ℕ → Option ℕ → Type 0
Above c calls d g r =
    MatchOption r (goes_up c calls d g ≡ false) (λ i. (goes_up c calls d g ≡ true) × (1 ≤ d) × (i ≡ next_cell c calls (d - 1) g) × (i < far))
