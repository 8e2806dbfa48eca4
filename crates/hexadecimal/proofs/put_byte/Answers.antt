-- `hexadecimal::put_byte` meets its contract.
use native.Mathlib.Omega.{arith}
use lib.ListN.{length-set}
use Rattle.hexadecimal.proofs.Laws.{two-set}
use Rattle.hexadecimal.proofs.put_byte.Goals as goal

pub bounds-dst-at-2 : goal.bounds-dst-at-2
bounds-dst-at-2 c = simp length-set (omega arith)

pub returns : goal.returns
returns c = two-set c.args.dst.now c.args.at c.args.b c.digit_of.result c.digit_of-2.result c.digit_of.ensures c.digit_of-2.ensures c.requires.room
