-- `packing::pack_strings` meets its contract. The invariant: the first j strings are in place.
use Rattle.packing.proofs.Writing.{stringing_none, string_room, stringing_more, stringing_all}
use native.Mathlib.Omega.{arith}
use Rattle.packing.proofs.pack_strings.Goals as goal

pub loop-j-init : goal.loop-j-init
loop-j-init c = stringing_none _ _ _

pub put-requires : goal.put-requires
put-requires c = omega (arith, string_room c.requires c.loop-j.invariant c.string_of-bytes.ensures, c.loop-j.invariant.long, c.requires.long)

pub loop-j-preserved : goal.loop-j-preserved
loop-j-preserved c = stringing_more c.requires c.loop-j.invariant c.loop-j-test.true c.string_of-bytes.ensures c.put.ensures (omega arith)

pub returns : goal.returns
returns c = stringing_all c.loop-j.invariant c.loop-j-test.false
