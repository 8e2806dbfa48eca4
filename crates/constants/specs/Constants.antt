-- A text or number argument as a component, and what UMIESC asks.
use Rattle.std.specs.Prelude.{◌≡◌, List, [], ◌∷◌, ℕ, ◌≤◌, ◌<◌, length, take}
use Rattle.language.specs.Limits as limit
use Rattle.language.specs.Program.{Arg}
use Rattle.language.specs.Values.{Component, Store, Inputs, chars}
use Rattle.machine.specs.Arguments.{side}
use Rattle.layout.specs.Bounds.{Encoded}
use Rattle.packed.specs.Packed.{table_of}
use Rattle.table.specs.Denote.{arg_of}
use Rattle.table.specs.Good.{GoodText, GoodArgument}
use Rattle.table.specs.declared.Argument.{Argument}
use Rattle.table.specs.declared.Argument.TheVariants.{Nothing, Indexed, Label, Switch, Class, Text, Number}
use Rattle.table.specs.declared.TextRef.{TextRef}
use Rattle.components.specs.declared.Amount.{Amount}

-- a text or a number
abbrev pub IsConstant : Argument → Type 0
IsConstant Nothing = ⊥
IsConstant (Indexed l n) = ⊥
IsConstant (Label k) = ⊥
IsConstant (Switch k) = ⊥
IsConstant (Class m) = ⊥
IsConstant (Text v) = Unit {0}
IsConstant (Number v) = Unit {0}

pub record Puttable (c : List ℕ) (a : Argument) : Type 0 where
  pub good : GoodArgument c (arg_of (table_of c) a) a
  pub form : IsConstant a

-- the component that the argument a offers stands in front of o
pub record Put (a : Arg) (o : List ℕ) (r : Amount) : Type 0 where
  pub part : Component
  pub single : r.parts ≡ 1
  pub is : (ins : Inputs) (s : Store) → side ins s a ≡ part ∷ []
  pub encoded : Encoded (take r.bytes o) (part ∷ [])
  pub inside : r.bytes ≤ length o
  pub chars_is : r.chars ≡ length (chars part)
  pub bytes_most : r.bytes ≤ 61
  pub chars_most : r.chars ≤ 60

-- UMIESC of the constant a, and of the text of r, to variable j of `most`
pub record Placeable (c : List ℕ) (a : Argument) (j most : ℕ) : Type 0 where
  pub good : GoodArgument c (arg_of (table_of c) a) a
  pub form : IsConstant a
  pub index : j < most

pub record TextPlaceable (c : List ℕ) (r : TextRef) (j : ℕ) : Type 0 where
  pub good : GoodText c r
  pub index : j < limit.outputs
