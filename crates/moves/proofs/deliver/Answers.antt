-- `moves::deliver` meets its contract.
use Rattle.machine.specs.Changes.{minus_unless, into}
use Rattle.layout.specs.Components.{components_in}
use Rattle.state.specs.Working.{nth, writing}
use Rattle.instructions.proofs.Answers.{one-after}
use Rattle.moves.proofs.deliver.Goals as goal

pub returns : goal.returns
returns c =
    let argsᶜ = c.args in
    one-after argsᶜ.state.now (into (nth (writing argsᶜ.target.at_end) argsᶜ.target.j) (components_in argsᶜ.new.now)) (minus_unless argsᶜ.reached) c.write_parts.ensures c.minus_unless.ensures
