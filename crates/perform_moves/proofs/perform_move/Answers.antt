-- `perform_moves::perform_move` meets its contract.
use Rattle.perform_moves.proofs.Operands.{carrying-by}
use Rattle.perform_moves.proofs.perform_move.Goals as goal

pub send-requires : goal.send-requires
send-requires c = carrying-by c.requires.performing c.in-PRZESLIJ.is

pub print-requires : goal.print-requires
print-requires c = carrying-by c.requires.performing c.in-PISZ.is

pub join-requires : goal.join-requires
join-requires c = carrying-by c.requires.performing c.in-ZBIJ.is

pub split-requires : goal.split-requires
split-requires c = carrying-by c.requires.performing c.in-ROZBIJ.is

pub seek-requires : goal.seek-requires
seek-requires c = carrying-by c.requires.performing c.in-SZUKAJ.is
