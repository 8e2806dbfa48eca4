-- `writing::put_instruction` meets its contract.
use lib.ListN.{get_or}
use native.Mathlib.Omega.{arith}
use Rattle.writing.proofs.Held.{instr-done}
use Rattle.writing.proofs.put_instruction.Goals as goal

pub returns : goal.returns
returns c =
    let put_four = c.put_four in
    let instructions = c.instructions-n in
    instr-done c.args.table.now put_four.new.table c.write.new.cells instructions.result c.requires.long c.args.op c.args.line (get_or c.args.arguments 0 0) (get_or c.args.arguments 1 0) (get_or c.args.arguments 2 0) instructions.ensures.is (omega (arith, instructions.ensures.is, c.requires.room)) (rw c.number.ensures at put_four.ensures) c.write.ensures
