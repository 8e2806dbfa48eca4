-- `macro_preparing::read_rows` meets its contract.
use Rattle.macro_preparing.proofs.Listing.{rows-read}
use native.Mathlib.Omega.{arith}
use Rattle.macro_preparing.proofs.read_rows.Goals as goal

pub returns : goal.returns
returns c = rows-read c.read_macros-listing.ensures (omega arith) c.requires.short (omega (arith, c.requires.cells)) c.requires.whole c.typed_faults-typed.ensures c.find_heights.ensures c.find_singles.ensures
