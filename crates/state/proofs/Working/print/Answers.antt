-- `Working::print` meets its contract.
use Rattle.state.proofs.Standing.{held, stands, becomes}
use Rattle.state.proofs.Beside.{printable, output-written}
use Rattle.state.proofs.Working.print.Goals as goal

pub push_back-requires : goal.push_back-requires
push_back-requires c = printable (held c.self.invariant c.self.view_is) c.args.chars.now c.requires

pub invariant_of-self : goal.invariant_of-self
invariant_of-self c = stands (output-written (held c.self.invariant c.self.view_is) c.args.chars.now c.requires c.push_back.ensures)

pub returns : goal.returns
returns c = becomes (output-written (held c.self.invariant c.self.view_is) c.args.chars.now c.requires c.push_back.ensures)
