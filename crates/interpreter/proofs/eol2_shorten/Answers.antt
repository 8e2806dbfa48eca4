-- `interpreter::eol2_shorten` meets its contract.
use Rattle.interpreter.proofs.Telling.{answers-shorten}
use Rattle.interpreter.proofs.eol2_shorten.Goals as goal

pub returns : goal.returns
returns c = answers-shorten c.shorten.ensures c.packed_shortened.ensures
