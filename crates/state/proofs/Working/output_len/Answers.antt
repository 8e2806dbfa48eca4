-- `Working::output_len` meets its contract.
use Rattle.state.proofs.Standing.{held, output-long}
use Rattle.state.proofs.Working.output_len.Goals as goal

pub returns : goal.returns
returns c = output-long (held c.self.invariant c.self.view_is) c.len_of.ensures
