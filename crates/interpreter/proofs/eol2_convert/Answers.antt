-- `interpreter::eol2_convert` meets its contract.
use Rattle.interpreter.proofs.Telling.{answers-filled}
use Rattle.interpreter.proofs.eol2_convert.Goals as goal

pub returns : goal.returns
returns c = answers-filled c.convert.ensures c.packed_filled.ensures
