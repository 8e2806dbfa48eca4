-- What reading the operands of an instruction asks and tells, and what putting components in the place of the first makes of a store.
use Rattle.std.specs.Prelude.{◌≡◌, Bool, cond, List, [], ◌∷◌, ℕ, ◌≤◌, ◌<◌, length, Option, Some, None, IfSome, Result, IfOk}
use Rattle.language.specs.Limits as limit
use Rattle.language.specs.Instructions.{two_words, two_numbers}
use Rattle.language.specs.Letters.Letter.{E}
use Rattle.language.specs.Program.{Program}
use Rattle.language.specs.Values.{Component, Store, State, Inputs, value, kind}
use Rattle.machine.specs.Arguments.{expr, first, side, needs, listed_pair, of_kinds}
use Rattle.machine.specs.Changes.{front, used}
use Rattle.machine.specs.Effects.{Row}
use Rattle.layout.specs.Bounds.{WholeComponents}
use Rattle.layout.specs.Cells.{uncode}
use Rattle.layout.specs.Components.{components_in}
use Rattle.components.specs.Parts.{kind_number}
use Rattle.components.specs.declared.Amount.{Amount}
use Rattle.state.specs.Working.{nth, reading, char_count}
use Rattle.state.specs.Blocks.{FirstParts}
use Rattle.table.specs.Denote.{arg_of}
use Rattle.table.specs.Good.{GoodIndex}
use Rattle.table.specs.declared.Letter.{Letter}
use Rattle.table.specs.declared.Letter.TheVariants.{B}
use Rattle.table.specs.declared.Argument.{Argument}
use Rattle.table.specs.declared.Argument.TheVariants.{Indexed, Number}
use Rattle.instructions.specs.Questions.{told_by}
use Rattle.instructions.specs.declared.Question.{Question}
use Rattle.instructions.specs.Does.{stop_of, DoesFor}
use Rattle.operands.specs.declared.Kinds.{Kinds}
use Rattle.operands.specs.declared.Kinds.TheVariants.{Words, Numbers}
use Rattle.operands.specs.declared.Offered.{Offered}
use Rattle.operands.specs.declared.Pair.{Pair}

abbrev pub kinds_by : Kinds → List (ℕ × ℕ)
kinds_by Words = two_words
kinds_by Numbers = two_numbers

-- the kind of the first component that is offered
abbrev pub kind_offered : List Component → Option ℕ
kind_offered [] = None
kind_offered (x ∷ xs) = Some (kind x)

-- the kind of what is offered
abbrev pub kind_in : Option Offered → Option ℕ
kind_in None = None
kind_in (Some x) = Some (kind_number x.kind)

-- what is asked of two such kinds: 52, 53, or 0 where both are answered yes
abbrev pub kinds_stop : List (ℕ × ℕ) → Option ℕ → Option ℕ → ℕ
kinds_stop ks None k = 52
kinds_stop ks (Some j) None = 52
kinds_stop ks (Some j) (Some k) = cond (listed_pair ks j k) 0 53

-- ---- what is asked

-- a second argument: B, or a number of the machine where it is one
pub record OperandReadable (a : Argument) : Type 0 where
  pub index : (l : Letter) (k : ℕ) → a ≡ Indexed l k → GoodIndex l k
  pub form : (l : Letter) (k : ℕ) → a ≡ Indexed l k → l ≡ B
  pub number : (v : ℕ) → a ≡ Number v → v ≤ 16777214

-- the first component of expression i, and a second argument
pub record PairReadable (i : ℕ) (a : Argument) : Type 0 where
  pub operand : OperandReadable a
  pub source : i < limit.expressions

-- ---- what is told: a question answered no (52, 53), or 0 and the number that xs is

-- xs is one number, of code n
pub record OneNumber (xs : List Component) (n : ℕ) : Type 0 where
  pub is : xs ≡ Component.number (uncode n) ∷ []
  pub most : n ≤ 16777214

pub record ReadsNumber (xs : List Component) (r : Result ℕ Question) : Type 0 where
  pub told : told_by r ≡ stop_of (needs 1 xs)
  pub is : IfOk r (λ n. OneNumber xs n)

-- the value that xs offers
pub record Offers (xs : List Component) (x : Offered) : Type 0 where
  pub value_is : uncode x.number ≡ value (first xs)
  pub most : x.number ≤ 16777214

-- the kind and the value that xs offers
pub record ReadsOffered (xs : List Component) (r : Option Offered) : Type 0 where
  pub kind_is : kind_in r ≡ kind_offered xs
  pub is : IfSome r (λ x. Offers xs x)

-- whatever the table and the inputs are
abbrev pub ReadsOperand : Store → Argument → Option Offered → Type 0
ReadsOperand s a r = (c : List ℕ) (ins : Inputs) → ReadsOffered (side ins s (arg_of c a)) r

-- the numbers of both, which are there
abbrev pub NumbersOf : Option Offered → Option Offered → Pair → Type 0
NumbersOf (Some x) (Some y) p = p ≡ record { left = x.number; right = y.number }
NumbersOf (Some x) None p = ⊥
NumbersOf None y p = ⊥

pub record AsksKinds (ks : List (ℕ × ℕ)) (x y : Option Offered) (r : Result Pair Question) : Type 0 where
  pub told : told_by r ≡ kinds_stop ks (kind_in x) (kind_in y)
  pub is : IfOk r (λ p. NumbersOf x y p)

-- two values
pub record Both (xs ys : List Component) (p : Pair) : Type 0 where
  pub left_is : uncode p.left ≡ value (first xs)
  pub right_is : uncode p.right ≡ value (first ys)
  pub left_most : p.left ≤ 16777214
  pub right_most : p.right ≤ 16777214

-- two values, of kinds that are listed
pub record ReadsOperands (ks : List (ℕ × ℕ)) (xs ys : List Component) (r : Result Pair Question) : Type 0 where
  pub told : told_by r ≡ stop_of (of_kinds ks xs ys)
  pub is : IfOk r (λ p. Both xs ys p)

abbrev pub ReadsPair : List (ℕ × ℕ) → Store → ℕ → Argument → Result Pair Question → Type 0
ReadsPair ks s i a r = (removes : Bool) (c : List ℕ) (ins : Inputs) → ReadsOperands ks (side ins s (nth (reading removes) i)) (side ins s (arg_of c a)) r

-- ---- the place of the first component

-- ys in front of expression i; A removes what they are made of
unfoldable pub replaced : Bool → ℕ → List Component → Store → Store
replaced removes i ys s = front (nth (reading removes) i) ys (used (nth (reading removes) i) s)

-- expression i has a first component, which is so much, and so much are the components in `new`
pub record Replaceable (σ : State) (i : ℕ) (f : Amount) (new : List ℕ) (a : Amount) : Type 0 where
  pub index : i < limit.expressions
  pub single : f.parts ≡ 1
  pub first : FirstParts (expr σ.store (nth E i)) 1 f.bytes f.chars
  pub letters_most : f.chars ≤ 65536
  pub whole : WholeComponents new
  pub count : a.parts ≡ length (components_in new)
  pub chars_is : a.chars ≡ char_count (components_in new)
  pub parts_most : a.parts ≤ 65536
  pub chars_most : a.chars ≤ 65536

-- ---- instructions that read no table: what they do is said for every one

abbrev pub DoesWith : State → ℕ → State → (List ℕ → Program → Inputs → Row) → Type 0
DoesWith σ told σ' r = (c : List ℕ) → DoesFor σ told σ' (r c)
