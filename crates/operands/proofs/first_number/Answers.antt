-- `operands::first_number` meets its contract.
use mathlib.Core.Path.{sym, ap, ◌∙◌}
use Rattle.std.proofs.lemmas.Result.{IfOk-at_ok}
use Rattle.instructions.specs.Questions.{told_by}
use Rattle.instructions.proofs.Fronts.{leading-kind}
use Rattle.operands.proofs.Reading.{front-number}
use Rattle.operands.proofs.first_number.Goals as goal

pub number_of-requires : goal.number_of-requires
number_of-requires c = leading-kind (IfOk-at_ok _ c.in_ok-x.was c.front_of.ensures.is)

pub returns-clause-reads : goal.returns-clause-reads
returns-clause-reads c =
    record {
      told = sym (ap told_by c.in_ok-x.was) ∙ c.front_of.ensures.told;
      is = front-number (IfOk-at_ok _ c.in_ok-x.was c.front_of.ensures.is) c.number_of.ensures;
    }
