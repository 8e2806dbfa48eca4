-- `interpreter::eol2_load` meets its contract.
use Rattle.interpreter.proofs.Telling.{answers-load}
use Rattle.interpreter.proofs.eol2_load.Goals as goal

pub returns : goal.returns
returns c = answers-load c.load.ensures c.packed_loaded.ensures
