-- `macro_section::write_places` meets its contract.
use Rattle.std.proofs.Common.{◌≡◌, ◌++◌, ◌-◌, take}
use Rattle.macro_section.specs.Origins.{ups}
use Rattle.macro_section.proofs.write_places.Given as goal

abbrev pub invariant-loop-j : goal.invariant-loop-j
invariant-loop-j l = take l.j l.places ≡ take l.from l.initial.places ++ ups l.place (l.j - l.from)
