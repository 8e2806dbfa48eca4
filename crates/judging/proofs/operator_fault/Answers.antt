-- `judging::operator_fault` meets its contract.
use Rattle.words.specs.Keywords.{is_english}
use Rattle.judging.proofs.Answers.{operator-told}
use Rattle.judging.proofs.operator_fault.Goals as goal

pub returns : goal.returns
returns c = λ s n g. operator-told g (is_english c.args.edition) c.is_barred.ensures c.then_some.ensures c.lower.ensures
