-- `macro_heights::find_heights` meets its contract.
use Rattle.macro_heights.specs.Levels.{quiet_table, loose_table, UpTo}
use lib.ListN.{length}
use Rattle.macro_heights.proofs.find_heights.Given as goal

abbrev pub ghost-settle_level : goal.ghost-settle_level
ghost-settle_level a = let l = a.height_of.0.now.listed in quiet_table l.coded.text.now l.coded.code.now l.firsts.now (length l.firsts.now)

abbrev pub ghost-settle_level-2 : goal.ghost-settle_level-2
ghost-settle_level-2 a = let l = a.height_of.0.now.listed in loose_table l.coded.text.now l.coded.code.now l.firsts.now (length l.firsts.now)

abbrev pub invariant-loop-level : goal.invariant-loop-level
invariant-loop-level l = UpTo (quiet_table l.macros.listed.coded.text.now l.macros.listed.coded.code.now l.macros.listed.firsts.now (length l.macros.listed.firsts.now)) (length l.macros.listed.firsts.now) l.level l.quiet × UpTo (loose_table l.macros.listed.coded.text.now l.macros.listed.coded.code.now l.macros.listed.firsts.now (length l.macros.listed.firsts.now)) (length l.macros.listed.firsts.now) l.level l.loose
