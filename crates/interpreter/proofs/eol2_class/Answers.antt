-- `interpreter::eol2_class` meets its contract.
use Rattle.interpreter.proofs.Telling.{answers-class}
use Rattle.interpreter.proofs.eol2_class.Goals as goal

pub returns : goal.returns
returns c = answers-class c.run_class.ensures c.packed_taken.ensures
