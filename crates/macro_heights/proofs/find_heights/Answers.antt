-- `macro_heights::find_heights` meets its contract.
use Rattle.std.proofs.Common.{rules}
use Rattle.std.proofs.iter.Serving.{serving}
use contract.BorrowLft.{⊑_meet, ⊑_static}
use Rattle.macro_heights.proofs.Passes.{quiet_found, quiet_climbs, loose_found, loose_climbs}
use lib.ListN.{length}
use Rattle.macro_heights.proofs.find_heights.Goals as goal

pub settle_level-requires : goal.settle_level-requires
settle_level-requires c κs within = let a = c.args in (
  search (⊑_meet, ⊑_static, within.0, within.1.0) depth 30,
  (search rules, (c.loop-level.invariant.0, (quiet_climbs a.macros.now.listed.coded.text.now a.macros.now.listed.coded.code.now a.macros.now.listed.firsts.now (length a.macros.now.listed.firsts.now), (grind serving, search (rules, quiet_found))))),
)

pub settle_level-requires-in-loop-level : goal.settle_level-requires-in-loop-level
settle_level-requires-in-loop-level c κs within = let a = c.args in (
  search (⊑_meet, ⊑_static, within.0, within.1.0) depth 30,
  (search rules, (c.loop-level.invariant.1, (loose_climbs a.macros.now.listed.coded.text.now a.macros.now.listed.coded.code.now a.macros.now.listed.firsts.now (length a.macros.now.listed.firsts.now), (grind serving, search (rules, loose_found))))),
)
