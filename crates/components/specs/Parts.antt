-- What the readers and makers of components ask and tell.
use Rattle.std.specs.Prelude.{◌≡◌, cond, List, [], ◌∷◌, ◌++◌, map, ℕ, ◌+◌, ◌≤◌, eqb, length, Option, Some, None}
use Rattle.std.specs.Borrow.{Bor}
use Rattle.cells.specs.Cells.{pasted, Number as Numbered}
use Rattle.cells.specs.Below.Limits as limit
use Rattle.cells.specs.Below.LanguageValues.{Component, chars, kind}
use Rattle.cells.specs.Below.LayoutBounds.{EncodedOne, WholeComponents}
use Rattle.cells.specs.Below.LayoutCells.{cell}
use Rattle.cells.specs.Below.Components.{component_size, component_in, components_in}
use Rattle.cells.specs.Below.Lists.{joined}
use Rattle.components.specs.declared.Amount.{Amount}
use Rattle.components.specs.declared.Kind.{Kind}
use Rattle.components.specs.declared.Kind.TheVariants.{Word, Number, Address}

-- the number that the language has for a kind
abbrev pub kind_number : Kind → ℕ
kind_number Word = 0
kind_number Number = 1
kind_number Address = 2

-- how many cells the first component of a sequence takes
abbrev pub first_size : List ℕ → ℕ
first_size l = cond (eqb (length l) 0) 0 (component_size (cell l 0))

-- the characters of all words, one after the other
abbrev pub spelled : List Component → List ℕ
spelled xs = joined (map chars xs)

-- x is the first component of l, and r what is behind it
pub record Front (l x r : List ℕ) : Type 0 where
  pub one : EncodedOne x (component_in l)
  pub cells : l ≡ x ++ r
  pub is : components_in l ≡ component_in l ∷ components_in r
  pub rest : WholeComponents r

-- both, none where there is none
abbrev pub SplitFirst : List ℕ → Option (Bor (List ℕ) × Bor (List ℕ)) → Type 0
SplitFirst l None = l ≡ []
SplitFirst l (Some p) = Front l p.0.now p.1.now

-- a whole component stands in front
pub record Leading (l : List ℕ) : Type 0 where
  pub fits : component_size (cell l 0) ≤ length l

-- and it is of kind k
pub record LeadingKind (k : ℕ) (l : List ℕ) : Type 0 where
  pub fits : component_size (cell l 0) ≤ length l
  pub kind_is : kind (component_in l) ≡ k

-- r is what x has of characters
pub record LentChars (x : Component) (r : List ℕ) : Type 0 where
  pub is : r ≡ chars x
  pub most : length r ≤ limit.word

-- a is how much the first component of l is
pub record AmountOfFirst (l : List ℕ) (a : Amount) : Type 0 where
  pub parts_are : a.parts ≡ 1
  pub bytes_are : Numbered (first_size l) 257 a.bytes
  pub chars_are : a.chars ≡ length (chars (component_in l))

-- among `long` cells there is room from index at on for a word of n characters
pub record WordRoom (long at n : ℕ) : Type 0 where
  pub room : at + 1 + n ≤ long
  pub most : n ≤ limit.word

-- among `long` cells there is room for the components of l; for their characters
pub record CopyRoom (long : ℕ) (l : List ℕ) : Type 0 where
  pub whole : WholeComponents l
  pub room : length l ≤ long

pub record JoinRoom (long : ℕ) (l : List ℕ) : Type 0 where
  pub whole : WholeComponents l
  pub room : length (spelled (components_in l)) ≤ long

-- d with the list l in front, whose length is r
pub record Written (d l e : List ℕ) (r : ℕ) : Type 0 where
  pub is : e ≡ pasted d 0 l
  pub count : r ≡ length l
  pub fits : r ≤ length d
