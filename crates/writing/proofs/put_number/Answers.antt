-- `writing::put_number` meets its contract.
use native.Mathlib.Omega.{arith}
use lib.ListN.{length-set}
use mathlib.Core.Path.{refl}
use Rattle.writing.proofs.Held.{number-done}
use Rattle.writing.proofs.put_number.Goals as goal

pub write-requires : goal.write-requires
write-requires c = record { room = simp length-set (omega arith); most = omega arith }

pub returns : goal.returns
returns c =
    let numbers = c.numbers-n in
    number-done c.args.table.now _ c.write.new.cells numbers.result c.requires.long c.args.code numbers.ensures.is (omega (arith, numbers.ensures.is, c.requires.room)) refl c.write.ensures
