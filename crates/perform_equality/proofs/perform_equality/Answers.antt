-- `perform_equality::perform_equality` meets its contract.
use Rattle.perform_moves.proofs.Operands.{carrying-by}
use Rattle.perform_equality.proofs.perform_equality.Goals as goal

pub relate_record-requires : goal.relate_record-requires
relate_record-requires c = carrying-by c.requires.performing c.in-RZ.is

pub returns-in-RZ : goal.returns-in-RZ
returns-in-RZ c = c.relate_record.ensures c.args.task.first.now c.args.task.second.now
