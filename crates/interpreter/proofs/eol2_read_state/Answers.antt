-- `interpreter::eol2_read_state` meets its contract.
use Rattle.interpreter.proofs.Telling.{answers-reading}
use Rattle.interpreter.proofs.eol2_read_state.Goals as goal

pub returns : goal.returns
returns c = answers-reading c.read_state.ensures c.packed_taken.ensures
