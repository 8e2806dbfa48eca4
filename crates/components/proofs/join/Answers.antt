-- `components::join` meets its contract.
use mathlib.Core.Path.{ap, ◌∙◌}
use native.Mathlib.Omega.{arith}
use lib.ListN.{length}
use Rattle.cells.specs.Below.LanguageValues.{chars}
use Rattle.components.proofs.Fronts.{leading-one}
use Rattle.components.proofs.Walks.{front_one, cells-long, front_some}
use Rattle.components.proofs.Makings.{gathering-room, gathering-next, gathering-all}
use Rattle.components.proofs.join.Goals as goal

pub chars_of-w-requires : goal.chars_of-w-requires
chars_of-w-requires c = let f = c.in-Some.ensures in leading-one f.one

pub put-requires : goal.put-requires
put-requires c =
    omega (arith, gathering-room c.loop-x.invariant c.requires.room c.in-Some.ensures, ap length (c.chars_of-w.ensures.is ∙ ap chars (front_one c.in-Some.ensures)))

pub loop-x-smaller : goal.loop-x-smaller
loop-x-smaller c = omega (arith, cells-long c.in-Some.ensures, front_some c.in-Some.ensures)

pub loop-x-preserved : goal.loop-x-preserved
loop-x-preserved c = gathering-next c.loop-x.invariant c.requires.room c.in-Some.ensures (c.chars_of-w.ensures.is ∙ ap chars (front_one c.in-Some.ensures)) c.put.ensures

pub returns : goal.returns
returns c = gathering-all c.loop-x.invariant c.requires.room c.in_default.ensures
