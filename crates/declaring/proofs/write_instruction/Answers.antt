-- `declaring::write_instruction` meets its contract.
use mathlib.Core.Path.{◌∙◌}
use Rattle.declaring.proofs.Instructing.{labelling, asked, instr-room, instr-written}
use Rattle.declaring.proofs.write_instruction.Goals as goal

pub put_labels-requires : goal.put_labels-requires
put_labels-requires c = labelling c.requires c.instructions-target.ensures.is

pub argument_cell-requires : goal.argument_cell-requires
argument_cell-requires c = asked c.requires c.instructions-target.ensures.is c.put_labels.ensures 0

pub argument_cell-requires-2 : goal.argument_cell-requires-2
argument_cell-requires-2 c = asked c.requires c.instructions-target.ensures.is c.put_labels.ensures 1

pub argument_cell-requires-3 : goal.argument_cell-requires-3
argument_cell-requires-3 c = asked c.requires c.instructions-target.ensures.is c.put_labels.ensures 2

pub put_instruction-requires : goal.put_instruction-requires
put_instruction-requires c = instr-room c.requires c.instructions-target.ensures.is c.put_labels.ensures (c.from-2.ensures ∙ c.from.ensures) c.argument_cell.ensures c.argument_cell-2.ensures c.argument_cell-3.ensures

pub returns : goal.returns
returns c = instr-written c.requires c.instructions-target.ensures.is c.put_labels.ensures (c.from-2.ensures ∙ c.from.ensures) c.argument_cell.ensures c.argument_cell-2.ensures c.argument_cell-3.ensures c.put_instruction.ensures
