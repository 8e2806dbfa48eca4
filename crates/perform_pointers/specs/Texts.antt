-- What the reader of a text argument asks.
use Rattle.std.specs.Prelude.{◌≡◌}
use Rattle.table.specs.declared.Argument.{Argument}
use Rattle.table.specs.declared.Argument.TheVariants.{Text}
use Rattle.table.specs.declared.TextRef.{TextRef}

-- it is a text
pub record IsText (a : Argument) : Type 0 where
  pub reference : TextRef
  pub is : a ≡ Text reference
