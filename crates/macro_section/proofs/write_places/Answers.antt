-- `macro_section::write_places` meets its contract.
use Rattle.std.proofs.Common.{refl, arith, ◌+◌, ◌-◌}
use Rattle.macro_values.specs.WritingLaws.{some-size}
use Rattle.macro_section.specs.OriginLaws.{ups-none, rise-turn}
use Rattle.macro_section.proofs.write_places.Goals as goal

pub loop-j-init : goal.loop-j-init
loop-j-init c = ups-none c.args.places.now c.args.place c.args.from

pub loop-j-preserved : goal.loop-j-preserved
loop-j-preserved c =
    let a = c.args in
    let l = c.loop-j in
    rise-turn l.places a.places.now a.from l.j (omega arith) (omega (arith, c.requires.1.room, some-size a.v c.in-Some.count c.in-Some.is)) a.place (a.place + (l.j - a.from)) l.invariant refl
