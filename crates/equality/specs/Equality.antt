-- What RW asks, and what is told of its arguments.
use Rattle.std.specs.Borrow.{Bor}
use Rattle.std.specs.Prelude.{◌≡◌, Bool, true, false, cond, List, [], ℕ, ◌≤◌, ◌<◌, eqb, length}
use Rattle.language.specs.Limits as limit
use Rattle.language.specs.Letters.Letter.{E}
use Rattle.language.specs.Values.{Component, Store, State, kind, same, of_class}
use Rattle.machine.specs.Arguments.{Until, up_to, expr, single, taken}
use Rattle.machine.specs.Changes.{minus, used}
use Rattle.layout.specs.Bounds.{WholeComponents}
use Rattle.layout.specs.Components.{component_in, components_in}
use Rattle.layout.specs.Table.{class_by}
use Rattle.lists.specs.Lists.{any, among, filled}
use Rattle.components.specs.Parts.{Leading}
use Rattle.matching.specs.Tests.{in_class, first_chars, until, until_firsts, compared, Fitting}
use Rattle.matching.specs.declared.Test.{Test}
use Rattle.matching.specs.declared.Test.TheVariants as test
use Rattle.state.specs.Working.{nth, reading}
use Rattle.components.specs.declared.Amount.{Amount}
use Rattle.state.specs.Blocks.{FirstParts}
use Rattle.table.specs.Denote.{arg_of}
use Rattle.instructions.specs.Fronts.{front_part}
use Rattle.table.specs.declared.Letter.{Letter}
use Rattle.table.specs.declared.Argument.{Argument}
use Rattle.table.specs.declared.Argument.TheVariants.{Nothing, Indexed, Label, Switch, Class, Text, Number}
use Rattle.comparands.specs.Offers.{Holdable}
use Rattle.tests.specs.Prepares.{OtherLetter}

-- what a component is compared by: a class, or the components that the argument offers, which are in g; and a character
abbrev met_by : List ℕ → Until Component
met_by g = up_to (λ x. any (same x) (components_in g))

abbrev begun_by : List ℕ → Until ℕ
begun_by g = up_to (λ b. among b (first_chars (components_in g)))

abbrev pub until_by : Argument → List ℕ → Until Component
until_by Nothing g = met_by g
until_by (Indexed l n) g = met_by g
until_by (Label k) g = met_by g
until_by (Switch k) g = met_by g
until_by (Class m) g = up_to (of_class (class_by [] m))
until_by (Text v) g = met_by g
until_by (Number v) g = met_by g

abbrev pub firsts_by : Argument → List ℕ → Until ℕ
firsts_by Nothing g = begun_by g
firsts_by (Indexed l n) g = begun_by g
firsts_by (Label k) g = begun_by g
firsts_by (Switch k) g = begun_by g
firsts_by (Class m) g = up_to (in_class m)
firsts_by (Text v) g = begun_by g
firsts_by (Number v) g = begun_by g

-- the test that an argument makes: its class, or what it offers, which is in g
abbrev pub test_of : Argument → Bor (List ℕ) → Test
test_of Nothing g = test.Among g
test_of (Indexed l n) g = test.Among g
test_of (Label k) g = test.Among g
test_of (Switch k) g = test.Among g
test_of (Class m) g = test.Class m
test_of (Text v) g = test.Among g
test_of (Number v) g = test.Among g

-- t is that test, and so what it means, and what it compares with
pub record TestBy (a : Argument) (g : Bor (List ℕ)) (t : Test) : Type 0 where
  pub is : t ≡ test_of a g
  pub parts : until t ≡ until_by a g.now
  pub firsts : until_firsts t ≡ firsts_by a g.now
  pub fitting : WholeComponents g.now → Fitting t
  pub long : compared t ≤ length g.now

-- its letter, if it has one, is one of a relation's
abbrev pub OtherArgument : Argument → Type 0
OtherArgument a = (l : Letter) (k : ℕ) → a ≡ Indexed l k → OtherLetter l

-- whether it offers a single component, whatever the table
abbrev pub Singles : Argument → Bool → Type 0
Singles a r = (c : List ℕ) → r ≡ single (arg_of c a)

-- x and, where there is a single component, g begin with one
pub record Alikeable (x g : List ℕ) (a : Argument) : Type 0 where
  pub left : Leading x
  pub right : ((c : List ℕ) → single (arg_of c a) ≡ true) → Leading g
  pub form : OtherArgument a

abbrev pub Unlike : List ℕ → List ℕ → Argument → Bool → Type 0
Unlike x g a r = (c : List ℕ) → r ≡ cond (single (arg_of c a)) (cond (eqb (kind (component_in x)) (kind (component_in g))) false true) false

-- what a relation of expression i makes of a store: A removes the first component where it holds, H turns minus where it does not
unfoldable pub related : Bool → Bool → ℕ → Store → Store
related holds removes i s = cond holds (used (nth (reading removes) i) s) (minus s)

-- by what the first component is compared with: the argument, and the components in g
unfoldable pub settled : Argument → List ℕ → Bool → ℕ → Store → Store
settled a g removes i s = related (taken (until_by a g) (front_part s i)).1 removes i s

-- expression i has a first component
pub record Settleable (σ : State) (g : List ℕ) (i : ℕ) : Type 0 where
  pub index : i < limit.expressions
  pub some : filled (expr σ.store (nth E i)) ≡ true
  pub whole : WholeComponents g

-- its first component is so much
pub record Finishable (σ : State) (i : ℕ) (f : Amount) : Type 0 where
  pub index : i < limit.expressions
  pub single : f.parts ≡ 1
  pub first : FirstParts (expr σ.store (nth E i)) 1 f.bytes f.chars

pub record Relatable (c : List ℕ) (i : ℕ) (a : Argument) : Type 0 where
  pub other : Holdable c a
  pub source : i < limit.expressions
