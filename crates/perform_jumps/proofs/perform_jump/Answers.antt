-- `perform_jumps::perform_jump` meets its contract.
use mathlib.Core.Path.{refl, ap}
use Rattle.language.specs.Operators.{op_by}
use Rattle.performing.specs.CarryingLaws.{known}
use Rattle.performing.specs.PlaceLaws.{read-none}
use Rattle.perform_jumps.proofs.Operands.{bare-led}
use Rattle.perform_jumps.proofs.perform_jump.Goals as goal

pub returns-in-WROC : goal.returns-in-WROC
returns-in-WROC c = bare-led (known (read-none c.requires.carrying) (ap op_by c.in-WROC.is)) refl c.wroc.ensures

pub returns-in-STOP : goal.returns-in-STOP
returns-in-STOP c = bare-led (known (read-none c.requires.carrying) (ap op_by c.in-STOP.is)) refl c.stop.ensures
