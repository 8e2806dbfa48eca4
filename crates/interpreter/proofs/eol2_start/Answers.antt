-- `interpreter::eol2_start` meets its contract.
use Rattle.interpreter.proofs.eol2_start.Goals as goal

pub returns : goal.returns
returns c = rw c.packed_taken.ensures c.begin.ensures
