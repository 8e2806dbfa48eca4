-- The cells of arguments in a program table that is being written: what is asked and promised.
use Rattle.std.specs.Prelude.{List, ℕ, ◌≤◌, T, length}
use Rattle.entering.specs.Below.Valued.{NamesText, Spells, Drafted}
use Rattle.entering.specs.Entering.{Held}
use Rattle.entering.specs.Below.Finding.{Tells}
use Rattle.language.specs.Limits as limit
use Rattle.language.specs.Program.{Arg, Program}
use Rattle.layout.specs.Table.{text_ref, arg_cell}
use Rattle.syntax.specs.ArgumentForms.{reads}
use Rattle.syntax.specs.ArgumentForms as syntax
use Rattle.entering.specs.Below.Quoted.{Quoted}
use Rattle.entering.specs.Below.ReadArgument.{ReadArgument}

-- the reference of a text
abbrev pub text_cell : List ℕ → Program → ℕ
text_cell w p = text_ref p w

-- a text
pub record TextNamed (s : List ℕ) (q : Quoted) (c : List ℕ) : Type 0 where
  pub chars : List ℕ
  pub names : NamesText s q chars
  pub short : length chars ≤ limit.item
  pub held : Held c

abbrev pub TextTold : List ℕ → Quoted → List ℕ → ℕ → Type 0
TextTold s q c r = (w : List ℕ) → NamesText s q w → Tells c (text_cell w) 384 r

-- the value of an argument a with the characters w
pub record Drafts (s : List ℕ) (x : ReadArgument) (a : Arg) : Type 0 where
  pub chars : List ℕ
  pub short : length chars ≤ limit.item
  pub spelt : Spells s chars x
  pub drafted : Drafted chars x a

pub record CellAsked (s : List ℕ) (x : ReadArgument) (c : List ℕ) : Type 0 where
  pub arg : Arg
  pub drafts : Drafts s x arg
  pub held : Held c

-- the cell of its draft
abbrev pub CellOf : List ℕ → ReadArgument → List ℕ → ℕ → Type 0
CellOf s x c r = (a : Arg) → Drafts s x a → Tells c (λ p. arg_cell p a) 16777727 r

-- an argument that reads as its form
pub record RightArgument (a : syntax.Argument) : Type 0 where
  pub as_form : T (reads a.item a.form)
  pub short : length a.item.chars ≤ limit.item
