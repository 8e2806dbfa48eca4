-- `matching::first_chars` meets its contract.
use mathlib.Core.Path.{ap}
use native.Mathlib.Omega.{arith}
use lib.ListN.{take}
use Rattle.components.specs.Below.LanguageValues.{chars}
use Rattle.components.proofs.Fronts.{leading-one}
use Rattle.components.proofs.Walks.{front_one, cells-long, front_some}
use Rattle.components.proofs.Makings.{gathering-room, gathering-next, gathering-all}
use Rattle.matching.proofs.first_chars.Goals as goal

pub put_first-n-requires : goal.put_first-n-requires
put_first-n-requires c =
    let f = c.in-Some.ensures in
    record { front = leading-one f.one; room = rw (front_one f) (gathering-room c.loop-x.invariant c.requires.room f) }

pub loop-x-smaller : goal.loop-x-smaller
loop-x-smaller c = omega (arith, cells-long c.in-Some.ensures, front_some c.in-Some.ensures)

pub loop-x-preserved : goal.loop-x-preserved
loop-x-preserved c =
    let put-firstᶜ = c.put_first-n in
    rw put-firstᶜ.ensures.count (gathering-next c.loop-x.invariant c.requires.room c.in-Some.ensures (ap (λ x. take 1 (chars x)) (front_one c.in-Some.ensures)) put-firstᶜ.ensures.is)

pub returns : goal.returns
returns c = gathering-all c.loop-x.invariant c.requires.room c.in_default.ensures
