-- Reading inputs: what CZYTAJ and USUN of an input make of a store, and what their functions ask and tell.
use Rattle.std.specs.Prelude.{◌≡◌, Bool, List, [], ◌∷◌, ℕ, ◌≤◌, ◌<◌, length, get_or, take, drop}
use Rattle.language.specs.Limits as limit
use Rattle.language.specs.Letters.Letter.{I}
use Rattle.language.specs.Program.{Program}
use Rattle.language.specs.Values.{Store, State}
use Rattle.machine.specs.Arguments.{at, Until, taken}
use Rattle.machine.specs.Changes.{minus_unless, into, past}
use Rattle.machine.specs.Effects.{Row}
use Rattle.matching.specs.Tests.{compared, Fitting}
use Rattle.matching.specs.declared.Test.{Test}
use Rattle.state.specs.Working.{Stands, nth, writing}
use Rattle.table.specs.declared.Argument.{Argument}
use Rattle.instructions.specs.Does.{Does}
use Rattle.tests.specs.Prepares.{TestReadable}
use Rattle.tests.specs.declared.Prepared.{Prepared}
use Rattle.moves.specs.Moves.{TestBeside}
use Rattle.joining.specs.Joining.{word_if}

-- how far input i is read, and input i of the two that are lent
abbrev pub read_place : Store → ℕ → ℕ
read_place s i = at 0 s.places (nth I i)

abbrev pub input_of : List ℕ → List ℕ → ℕ → List ℕ
input_of a b i = get_or (a ∷ b ∷ []) i []

-- what u takes of the unread characters of input i is a word of expression j; is passed
unfoldable pub read_up : Until ℕ → List ℕ → ℕ → Bool → ℕ → Store → Store
read_up u input i at_end j s =
    let w = drop (read_place s i) input in
    let r = taken u w in
    minus_unless r.1 (into (nth (writing at_end) j) (word_if (take r.0 w)) (past (nth I i) r.0 s))

unfoldable pub passed : Until ℕ → List ℕ → ℕ → Store → Store
passed u input i s = let r = taken u (drop (read_place s i) input) in minus_unless r.1 (past (nth I i) r.0 s)

-- for every program, and with the order turned round or not: a word turned round is itself
abbrev pub DoesReading : State → ℕ → State → (Program → Bool → Row) → Type 0
DoesReading σ told σ' r = (g : Program) (reverses : Bool) → Does σ told σ' (r g reverses)

abbrev pub DoesPassing : State → ℕ → State → (Program → Row) → Type 0
DoesPassing σ told σ' r = (g : Program) → Does σ told σ' (r g)

-- ---- what is asked

-- a test of components, for whose first characters a row of `hold` cells has room
pub record CharsTakeable (test : Test) (hold : ℕ) : Type 0 where
  pub fitting : Fitting test
  pub room : compared test ≤ hold

-- input i is read up to a place within it
pub record Unread (σ : State) (input : List ℕ) (i : ℕ) : Type 0 where
  pub index : i < limit.inputs
  pub short : length input ≤ limit.input
  pub inside : read_place σ.store i ≤ length input

pub record Passable (σ : State) (input g : List ℕ) (test : Prepared) (i : ℕ) : Type 0 where
  pub unread : Unread σ input i
  pub beside : TestBeside g test

pub record WordReadable (σ : State) (input g : List ℕ) (test : Prepared) (i j : ℕ) : Type 0 where
  pub unread : Unread σ input i
  pub beside : TestBeside g test
  pub target : j < limit.expressions

-- USUN of input i of a and b with the test of an argument; CZYTAJ of it into expression j
pub record InputPassable (c : List ℕ) (σ : State) (a b : List ℕ) (i : ℕ) (arg : Argument) : Type 0 where
  pub unread : Unread σ (input_of a b i) i
  pub test : TestReadable c arg

pub record InputReadable (c : List ℕ) (σ : State) (a b : List ℕ) (i j : ℕ) (arg : Argument) : Type 0 where
  pub unread : Unread σ (input_of a b i) i
  pub test : TestReadable c arg
  pub target : j < limit.expressions

-- ---- what is told

-- r is what of input i is not yet read
pub record Left (σ : State) (input : List ℕ) (i : ℕ) (r : List ℕ) : Type 0 where
  pub stands : Stands σ
  pub is : r ≡ drop (read_place σ.store i) input
