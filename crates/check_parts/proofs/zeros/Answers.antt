-- `check_parts::zeros` meets its contract.
use Rattle.std.proofs.Common.{refl, rules}
use borrow.Author.Tests.{tests}
use Rattle.check_parts.specs.PassLaws.{passes_all}
use Rattle.check_parts.proofs.zeros.Goals as goal

pub returns : goal.returns
returns c = passes_all _ c.args.from c.args.to _ refl _ _ _ c.all.ensures.ran (λ x b q k. search (rules, tests))
