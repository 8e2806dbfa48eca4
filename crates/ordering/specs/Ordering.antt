-- What WK, MN, PP and NS ask, and what is told of the words that they read.
use Rattle.std.specs.Prelude.{◌≡◌, Bool, List, [], ◌∷◌, ℕ, ◌≤◌, ◌<◌, length, take, Option, Some, IfSome, Result, IfOk}
use Rattle.characters.specs.Characters.{precedes}
use Rattle.language.specs.Instructions.{two_words}
use Rattle.language.specs.Limits as limit
use Rattle.language.specs.Program.{Op}
use Rattle.language.specs.Program.Op.{WK, MN, PP, NS}
use Rattle.language.specs.Values.{Component, Store, Inputs, chars}
use Rattle.language.specs.Values.Component.{word}
use Rattle.machine.specs.Arguments.{first, side, of_kinds}
use Rattle.packed.specs.Packed.{table_of}
use Rattle.table.specs.Denote.{arg_of}
use Rattle.table.specs.Good.{GoodArgument}
use Rattle.table.specs.declared.Letter.{Letter}
use Rattle.table.specs.declared.Letter.TheVariants.{B}
use Rattle.table.specs.declared.Argument.{Argument}
use Rattle.table.specs.declared.Argument.TheVariants.{Indexed}
use Rattle.instructions.specs.Questions.{told_by}
use Rattle.instructions.specs.declared.Question.{Question}
use Rattle.instructions.specs.Does.{stop_of}
use Rattle.instructions.specs.Fronts.{front_part}
use Rattle.operands.specs.Operands.{kind_in, kind_offered}
use Rattle.operands.specs.declared.Offered.{Offered}
use Rattle.operands.specs.declared.Pair.{Pair}
use Rattle.ordering.specs.declared.Order.{Order}
use Rattle.ordering.specs.declared.Order.TheVariants.{Before, After}

-- a second argument of a well-formed table; its letter, if it has one, is B
pub record OtherReadable (c : List ℕ) (a : Argument) : Type 0 where
  pub good : GoodArgument c (arg_of (table_of c) a) a
  pub form : (l : Letter) (k : ℕ) → a ≡ Indexed l k → l ≡ B

pub record Comparable (c : List ℕ) (i : ℕ) (a : Argument) : Type 0 where
  pub other : OtherReadable c a
  pub source : i < limit.expressions

-- "WK: greater", "MN: smaller"; "PP: before", "NS: behind"
abbrev pub number_op : Order → Op
number_op Before = MN
number_op After = WK

abbrev pub word_op : Order → Op
word_op Before = PP
word_op After = NS

-- how the order compares words
abbrev pub words_by : Order → List ℕ → List ℕ → Bool
words_by Before v w = precedes v w
words_by After v w = precedes w v

-- the characters that xs offers in front of g, so many as `x` tells
pub record Spelled (xs : List Component) (g : List ℕ) (x : Offered) : Type 0 where
  pub is : take x.number g ≡ chars (first xs)
  pub inside : x.number ≤ length g

-- the kind that xs offers, and its characters
pub record ReadsWord (xs : List Component) (g : List ℕ) (r : Option Offered) : Type 0 where
  pub kind_is : kind_in r ≡ kind_offered xs
  pub is : IfSome r (λ x. Spelled xs g x)

abbrev pub ReadsOther : List ℕ → Store → Argument → List ℕ → Option Offered → Type 0
ReadsOther c s a g r = (ins : Inputs) → ReadsWord (side ins s (arg_of (table_of c) a)) g r

-- the text w in front of g
pub record TextIs (w g : List ℕ) (r : Option Offered) : Type 0 where
  pub kind_is : kind_in r ≡ Some 0
  pub is : IfSome r (λ x. Spelled (word w ∷ []) g x)

-- the characters of both in front of g and h
pub record BothSpelled (xs ys : List Component) (g h : List ℕ) (p : Pair) : Type 0 where
  pub left_is : take p.left g ≡ chars (first xs)
  pub right_is : take p.right h ≡ chars (first ys)
  pub left_most : p.left ≤ 32768
  pub right_most : p.right ≤ 32768

-- two words
pub record ReadsTwo (xs ys : List Component) (g h : List ℕ) (r : Result Pair Question) : Type 0 where
  pub told : told_by r ≡ stop_of (of_kinds two_words xs ys)
  pub is : IfOk r (λ p. BothSpelled xs ys g h p)

abbrev pub ReadsWords : List ℕ → Store → ℕ → Argument → List ℕ → List ℕ → Result Pair Question → Type 0
ReadsWords c s i a g h r = (ins : Inputs) → ReadsTwo (front_part s i) (side ins s (arg_of (table_of c) a)) g h r
