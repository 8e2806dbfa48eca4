-- Tests as the code has them: what they mean, what they ask, and what is told of what they take.
use Rattle.std.specs.Prelude.{◌≡◌, Bool, true, false, cond, List, [], ◌∷◌, map, ℕ, suc, ◌+◌, ◌≤◌, leb, eqb, length, take}
use Rattle.components.specs.Below.Cells.{pasted}
use Rattle.characters.specs.Characters.{class_of}
use Rattle.components.specs.Parts.{Leading}
use Rattle.components.specs.Below.LanguageValues.{Component, chars, kind, same, of_class}
use Rattle.components.specs.Below.LayoutBounds.{OneComponent, WholeComponents}
use Rattle.components.specs.Below.Components.{components_bytes, component_in, components_in}
use Rattle.components.specs.Below.Table.{class_by}
use Rattle.characters.specs.Below.Lists.{total, all, any, joined, among}
use Rattle.components.specs.Below.MachineArguments.{Until, everything, number_of, up_to, taken}
use Rattle.matching.specs.declared.Test.{Test}
use Rattle.matching.specs.declared.Test.TheVariants.{All, Count, Class, Among}
use Rattle.matching.specs.declared.Taken.{Taken}
use Rattle.matching.specs.declared.CharsTaken.{CharsTaken}

-- whether a character is of a mask's class
abbrev pub in_class : ℕ → ℕ → Bool
in_class mask b = among (class_of b) (class_by [] mask)

-- the first characters of words
abbrev pub first_chars : List Component → List ℕ
first_chars xs = joined (map (λ x. take 1 (chars x)) xs)

-- ---- what a test means

-- on components: those of which one is to be met
abbrev pub until : Test → Until Component
until All = everything
until (Count n) = number_of n
until (Class mask) = up_to (of_class (class_by [] mask))
until (Among g) = up_to (λ x. any (same x) (components_in g.now))

-- on characters: the characters themselves
abbrev pub until_chars : Test → Until ℕ
until_chars All = everything
until_chars (Count n) = number_of n
until_chars (Class mask) = up_to (in_class mask)
until_chars (Among g) = up_to (λ b. among b g.now)

-- on the characters of an input: of the components only the first characters count
abbrev pub until_firsts : Test → Until ℕ
until_firsts All = everything
until_firsts (Count n) = number_of n
until_firsts (Class mask) = up_to (in_class mask)
until_firsts (Among g) = up_to (λ b. among b (first_chars (components_in g.now)))

-- whether a test that met no end is reached after k elements
abbrev pub reached_by : Test → ℕ → Bool
reached_by All k = true
reached_by (Count n) k = leb n k
reached_by (Class mask) k = false
reached_by (Among g) k = false

-- ---- a test, element by element: whether it ends the sequence before element k, and whether it is reached where there is none

module _ {X : Type 0} where
  abbrev pub stops_before : Until X → ℕ → X → Bool
  stops_before everything k x = false
  stops_before (number_of n) k x = leb n k
  stops_before (up_to p) k x = p x

  abbrev pub ends : Until X → ℕ → Bool
  ends everything k = true
  ends (number_of n) k = leb n k
  ends (up_to p) k = false

  unfoldable pub walked : Until X → ℕ → List X → ℕ × Bool
  walked u k [] = (k, ends u k)
  walked u k (x ∷ xs) = cond (stops_before u k x) (k, true) (walked u (suc k) xs)

-- ---- what the functions ask

-- how many cells a test compares with
abbrev pub compared : Test → ℕ
compared All = 0
compared (Count n) = 0
compared (Class mask) = 0
compared (Among g) = length g.now

-- what a test compares with are components
abbrev pub Fitting : Test → Type 0
Fitting All = Unit {0}
Fitting (Count n) = Unit {0}
Fitting (Class mask) = Unit {0}
Fitting (Among g) = WholeComponents g.now

pub record Comparable (x g : List ℕ) : Type 0 where
  pub one : OneComponent x
  pub whole : WholeComponents g

pub record Stoppable (t : Test) (x : List ℕ) : Type 0 where
  pub one : OneComponent x
  pub fitting : Fitting t

pub record Countable (l : List ℕ) (t : Test) : Type 0 where
  pub whole : WholeComponents l
  pub fitting : Fitting t

-- among `long` cells there is room from index n on for the first character in front of x; for those of l
pub record FirstRoom (long n : ℕ) (x : List ℕ) : Type 0 where
  pub front : Leading x
  pub room : n + length (take 1 (chars (component_in x))) ≤ long

pub record FirstsRoom (long : ℕ) (l : List ℕ) : Type 0 where
  pub whole : WholeComponents l
  pub room : length (first_chars (components_in l)) ≤ long

-- ---- and what they tell

-- d with the first character in front of x at index n, and the index behind it
pub record FirstPut (d : List ℕ) (n : ℕ) (x e : List ℕ) (r : ℕ) : Type 0 where
  pub is : e ≡ pasted d n (take 1 (chars (component_in x)))
  pub count : r ≡ n + length (take 1 (chars (component_in x)))

-- how many characters there are, and whether there are only words
-- `char_count` is a line here and in `state`: the lowest crate that both name is components, whose definitions `Working` would pass on to all above.
abbrev pub char_count : List Component → ℕ
char_count xs = total (λ x. length (chars x)) xs

abbrev pub all_word : List Component → Bool
all_word xs = all (λ x. eqb (kind x) 0) xs

-- what `taken` is of the components xs, with the cells and characters of what is taken
pub record Took (u : Until Component) (xs : List Component) (r : Taken) : Type 0 where
  pub is : taken u xs ≡ (r.amount.parts, r.reached)
  pub parts_most : r.amount.parts ≤ length xs
  pub bytes_is : r.amount.bytes ≡ length (components_bytes (take r.amount.parts xs))
  pub chars_is : r.amount.chars ≡ char_count (take r.amount.parts xs)
  pub words_is : r.words ≡ all_word (take r.amount.parts xs)
  pub bytes_most : r.amount.bytes ≤ length (components_bytes xs)
  pub chars_most : r.amount.chars ≤ r.amount.bytes

pub record TookChars (u : Until ℕ) (s : List ℕ) (r : CharsTaken) : Type 0 where
  pub is : taken u s ≡ (r.taken, r.reached)
  pub most : r.taken ≤ length s
