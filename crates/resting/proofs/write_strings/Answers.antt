-- `resting::write_strings` meets its contract.
use Rattle.resting.proofs.Laws.{strung}
use Rattle.resting.proofs.write_strings.Goals as goal

pub returns : goal.returns
returns c = strung c.args.state.now c.pack.ensures
