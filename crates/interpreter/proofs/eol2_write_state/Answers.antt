-- `interpreter::eol2_write_state` meets its contract.
use Rattle.interpreter.proofs.Telling.{answers-filled}
use Rattle.interpreter.proofs.eol2_write_state.Goals as goal

pub returns : goal.returns
returns c = answers-filled c.write_state.ensures c.packed_filled.ensures
