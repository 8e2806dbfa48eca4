-- `interpreter::eol2_run` meets its contract.
use Rattle.interpreter.proofs.eol2_run.Goals as goal

pub returns : goal.returns
returns c = rw c.packed_ran.ensures c.run.ensures
