-- `matching::class_place` meets its contract.
use native.Mathlib.Omega.{arith}
use Rattle.matching.proofs.Classes.{place_by}
use Rattle.matching.proofs.class_place.Goals as goal

pub returns : goal.returns
returns c = rw c.from.ensures (place_by c.args.b c.ranges.b.fits, omega arith)
