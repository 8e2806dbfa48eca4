-- What RW of an input asks, and what it makes of a store.
use Rattle.std.specs.Prelude.{◌≡◌, Bool, true, false, cond, List, ℕ, ◌≤◌, eqb, length, take, drop}
use Rattle.language.specs.Values.{Store, State, kind}
use Rattle.machine.specs.Arguments.{single, taken}
use Rattle.machine.specs.Changes.{minus_unless}
use Rattle.layout.specs.Bounds.{WholeComponents}
use Rattle.layout.specs.Components.{component_in}
use Rattle.components.specs.Parts.{Leading}
use Rattle.table.specs.Denote.{arg_of}
use Rattle.table.specs.declared.Argument.{Argument}
use Rattle.comparands.specs.Offers.{Holdable}
use Rattle.equality.specs.Equality.{firsts_by, OtherArgument}
use Rattle.readings.specs.Readings.{read_place, input_of, Unread}

-- where there is a single component, g begins with it
pub record Spellable (g : List ℕ) (a : Argument) : Type 0 where
  pub front : ((c : List ℕ) → single (arg_of c a) ≡ true) → Leading g
  pub form : OtherArgument a

-- whether an argument offers a single component that is not a word
abbrev pub NotWord : List ℕ → Argument → Bool → Type 0
NotWord g a r = (c : List ℕ) → r ≡ cond (single (arg_of c a)) (cond (eqb (kind (component_in g)) 0) false true) false

-- H turns minus where the next character of the input is not what the argument means, with the components in g beside
unfoldable pub compared : Argument → List ℕ → List ℕ → ℕ → Store → Store
compared a g input i s = minus_unless (taken (firsts_by a g) (take 1 (drop (read_place s i) input))).1 s

pub record InputComparable (σ : State) (input g : List ℕ) (i : ℕ) : Type 0 where
  pub unread : Unread σ input i
  pub whole : WholeComponents g
  pub room : length g ≤ 32768

-- RW of input i of a and b
pub record InputRelatable (c : List ℕ) (σ : State) (a b : List ℕ) (i : ℕ) (arg : Argument) : Type 0 where
  pub unread : Unread σ (input_of a b i) i
  pub other : Holdable c arg
