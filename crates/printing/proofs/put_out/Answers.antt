-- `printing::put_out` meets its contract.
use Rattle.language.specs.Letters.Letter.{Q}
use Rattle.machine.specs.Changes.{minus_unless, printed}
use Rattle.state.specs.Working.{nth}
use Rattle.instructions.proofs.Answers.{one-after}
use Rattle.printing.proofs.put_out.Goals as goal

pub returns : goal.returns
returns c =
    let argsᶜ = c.args in
    one-after argsᶜ.state.now (printed (nth Q argsᶜ.j) argsᶜ.chars.now) (minus_unless argsᶜ.reached) c.print.ensures c.minus_unless.ensures
