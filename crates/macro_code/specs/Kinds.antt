-- What code reads of a name, an argument or a change in cells c: its kind, with the number beside it.
use Rattle.std.specs.Prelude.{Option, Some, None, ◌≡◌, List, ℕ, ◌+◌, ◌<◌}
use Rattle.macro_code.specs.Code.{high, low}
use Rattle.macro_code.specs.Places as place
use Rattle.macro_code.specs.declared.Given.{Given}
use Rattle.macro_code.specs.declared.Given.TheVariants.{Typed, Parameter, Joined}
use Rattle.macro_code.specs.declared.Change.{Change}
use Rattle.macro_code.specs.declared.Change.TheVariants.{Value, Call, Nothing}

-- the number beside the kind
abbrev pub Beside : List ℕ → ℕ → ℕ → Type 0
Beside c i k = (k ≡ low c (i + place.kind_cell)) × (k < place.half)

-- a name or an argument
abbrev pub GivenAt : List ℕ → ℕ → Given → Type 0
GivenAt c g Typed = high c (g + place.kind_cell) ≡ place.typed_kind
GivenAt c g (Parameter k) = (high c (g + place.kind_cell) ≡ place.parameter_kind) × Beside c g k
GivenAt c g (Joined k) = (high c (g + place.kind_cell) ≡ place.typed_kind → ⊥) × (high c (g + place.kind_cell) ≡ place.parameter_kind → ⊥) × Beside c g k

-- the number of the parameter of one
abbrev pub parameter_of : Given → Option ℕ
parameter_of Typed = None
parameter_of (Parameter k) = Some k
parameter_of (Joined k) = Some k

-- a change
abbrev pub ChangeAt : List ℕ → ℕ → Change → Type 0
ChangeAt c i (Value k) = (high c (i + place.kind_cell) ≡ place.value_kind) × Beside c i k
ChangeAt c i (Call n) = (high c (i + place.kind_cell) ≡ place.call_kind) × Beside c i n
ChangeAt c i Nothing = (high c (i + place.kind_cell) ≡ place.value_kind → ⊥) × (high c (i + place.kind_cell) ≡ place.call_kind → ⊥)
