-- `Working::place` meets its contract.
use mathlib.Core.Path.{refl, sym}
use mathlib.Core.Bool.{cond}
use lib.ListN.{drop}
use Rattle.state.specs.Working.{row_of}
use Rattle.state.proofs.Standing.{held, read-to, place_of}
use Rattle.state.proofs.Working.place.Goals as goal

pub returns : goal.returns
returns c =
    let m = c.self.inside.scalars in
    read-to (held c.self.invariant c.self.view_is) c.requires (sym (place_of (row_of m) (cond m.plus 1 0) m.places (drop 3 (row_of m)) refl c.args.i c.requires))
