-- What reading a test's values asks and tells: the questions of its argument, and the test that it makes.
use Rattle.std.specs.Prelude.{◌≡◌, List, [], ℕ, ◌≤◌, T, length, take, Result, IfOk}
use Rattle.lists.specs.Lists.{any, among}
use Rattle.lists.specs.Quoted.{bytes}
use Rattle.language.specs.Letters as letters
use Rattle.language.specs.Letters.{letter_code}
use Rattle.language.specs.Program.{Arg}
use Rattle.language.specs.Values.{Component, Store, Inputs, same, of_class}
use Rattle.machine.specs.Arguments.{Asks, Until, everything, up_to, test_asks, number_of, on_parts, on_chars}
use Rattle.layout.specs.Bounds.{Encoded, WholeComponents}
use Rattle.layout.specs.Cells.{uncode}
use Rattle.layout.specs.Components.{components_in}
use Rattle.layout.specs.Table.{class_by}
use Rattle.state.specs.Working.{nth}
use Rattle.table.specs.Below.Packed.{table_of}
use Rattle.table.specs.Denote.{letter_of, arg_of}
use Rattle.table.specs.Good.{GoodIndex, GoodArgument}
use Rattle.table.specs.declared.Letter.{Letter}
use Rattle.table.specs.declared.Argument.{Argument}
use Rattle.table.specs.declared.Argument.TheVariants.{Indexed}
use Rattle.matching.specs.Tests.{in_class, first_chars, until, until_firsts, compared, Fitting}
use Rattle.matching.specs.declared.Test.{Test}
use Rattle.instructions.specs.Questions.{told_by}
use Rattle.instructions.specs.declared.Question.{Question}
use Rattle.instructions.specs.Does.{stop_of}
use Rattle.tests.specs.declared.Prepared.{Prepared}
use Rattle.tests.specs.declared.Prepared.TheVariants.{All, Count, Class, Among}

-- ---- what is asked

-- the letters of tests of components and characters
abbrev pub TestLetter : Letter → Type 0
TestLetter l = T (among (letter_code (letter_of l)) (bytes "BNT"))

-- those of tests of records and of relations' second arguments, where an expression is compared whole too
abbrev pub OtherLetter : Letter → Type 0
OtherLetter l = T (among (letter_code (letter_of l)) (bytes "BENT"))

-- l, one of the letters L, with its index
pub record LetterGiven (L : Letter → Type 0) (l : Letter) (k : ℕ) : Type 0 where
  pub index : GoodIndex l k
  pub form : L l

abbrev pub LetterReadable : Letter → ℕ → Type 0
LetterReadable = LetterGiven TestLetter

-- a is an argument of a well-formed table, and its letter, if it has one, is one of the letters L
pub record ArgumentGiven (L : Letter → Type 0) (c : List ℕ) (a : Argument) : Type 0 where
  pub good : GoodArgument c (arg_of (table_of c) a) a
  pub form : (l : Letter) (k : ℕ) → a ≡ Indexed l k → L l

abbrev pub TestReadable : List ℕ → Argument → Type 0
TestReadable = ArgumentGiven TestLetter

-- ---- what is told

-- the components xs stand in front of g, in n cells
pub record Beside (xs : List Component) (g : List ℕ) (n : ℕ) : Type 0 where
  pub encoded : Encoded (take n g) xs
  pub inside : n ≤ length g
  pub most : n ≤ 32768

-- q are the questions; where they are answered yes, the components xs stand in front of g
pub record PutBeside (q : Asks) (xs : List Component) (g : List ℕ) (r : Result ℕ Question) : Type 0 where
  pub told : told_by r ≡ stop_of q
  pub is : IfOk r (λ n. Beside xs g n)

-- how many bytes in front of a row a test compares with
abbrev pub beside_size : Prepared → ℕ
beside_size All = 0
beside_size (Count n) = 0
beside_size (Class mask) = 0
beside_size (Among k) = k

-- what it means with the row g: on components, and on the characters of an input
abbrev pub until_in : Prepared → List ℕ → Until Component
until_in All g = everything
until_in (Count n) g = number_of n
until_in (Class mask) g = up_to (of_class (class_by [] mask))
until_in (Among k) g = up_to (λ x. any (same x) (components_in (take k g)))

abbrev pub until_firsts_in : Prepared → List ℕ → Until ℕ
until_firsts_in All g = everything
until_firsts_in (Count n) g = number_of n
until_firsts_in (Class mask) g = up_to (in_class mask)
until_firsts_in (Among k) g = up_to (λ b. among b (first_chars (components_in (take k g))))

-- those bytes are components
abbrev pub FittingIn : Prepared → List ℕ → Type 0
FittingIn All g = Unit {0}
FittingIn (Count n) g = Unit {0}
FittingIn (Class mask) g = Unit {0}
FittingIn (Among k) g = WholeComponents (take k g)

-- t is that test
pub record TestOf (p : Prepared) (g : List ℕ) (t : Test) : Type 0 where
  pub parts : until t ≡ until_in p g
  pub firsts : until_firsts t ≡ until_firsts_in p g
  pub fitting : FittingIn p g → Fitting t
  pub long : compared t ≤ beside_size p

-- p is what the argument c of a test means on the store s, with the bytes in front of g beside it: on components, and on characters, with the
-- first characters of those components
pub record ReadTest (s : Store) (c : Arg) (g : List ℕ) (p : Prepared) : Type 0 where
  pub fitting : FittingIn p g
  pub parts : (ins : Inputs) → on_parts ins s c ≡ until_in p g
  pub chars : (ins : Inputs) → on_chars ins s c ≡ until_firsts_in p g
  pub most : beside_size p ≤ 32768
  pub inside : beside_size p ≤ length g

-- r is what the argument c asks and means so. A negative count, which is refused, takes nothing
pub record Prepares (s : Store) (c : Arg) (g : List ℕ) (r : Result Prepared Question) : Type 0 where
  pub stop_is : (ins : Inputs) → told_by r ≡ stop_of (test_asks ins s c)
  pub is : IfOk r (λ p. ReadTest s c g p)
  pub negative : told_by r ≡ 54 → (ins : Inputs) → on_parts ins s c ≡ number_of 0

-- a number and N, for every store or bytes
abbrev pub NumberPrepares : ℕ → Result Prepared Question → Type 0
NumberPrepares v r = (s : Store) (g : List ℕ) → Prepares s (Arg.number (uncode v)) g r

abbrev pub CountPrepares : Store → ℕ → Result Prepared Question → Type 0
CountPrepares s i r = (g : List ℕ) → Prepares s (nth letters.Letter.N i) g r
