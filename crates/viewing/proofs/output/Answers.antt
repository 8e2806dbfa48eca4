-- `viewing::output` meets its contract.
use mathlib.Core.Path.{refl}
use native.Mathlib.Omega.{arith}
use Rattle.viewing.proofs.Strings.{outputs-lie, output-shown}
use Rattle.viewing.proofs.output.Goals as goal

pub string_at-requires : goal.string_at-requires
string_at-requires c = outputs-lie c.requires refl (omega arith)

pub returns : goal.returns
returns c = output-shown c.requires refl c.string_at.ensures
