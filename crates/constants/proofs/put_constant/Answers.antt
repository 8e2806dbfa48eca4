-- `constants::put_constant` meets its contract.
use native.Mathlib.Omega.{arith}
use Rattle.packed.specs.Packed.{table_of}
use Rattle.constants.proofs.Rows.{text-long, text_put, as-put, number_put}
use Rattle.constants.proofs.put_constant.Goals as goal

pub overflow_sub-result : goal.overflow_sub-result
overflow_sub-result c = omega (arith, text-long c.put_text-n.ensures)

pub returns-in-Text : goal.returns-in-Text
returns-in-Text c = as-put (table_of c.args.table.cells.now) c.in-Text.is (text_put c.put_text-n.ensures (c.requires.good.text c.in-Text.text c.in-Text.is).short)

pub returns-in-Number : goal.returns-in-Number
returns-in-Number c =
    as-put (table_of c.args.table.cells.now) c.in-Number.is (number_put c.in-Number.v (c.requires.good.number c.in-Number.v c.in-Number.is) c.args.out.now c.put_number.ensures (omega arith))
