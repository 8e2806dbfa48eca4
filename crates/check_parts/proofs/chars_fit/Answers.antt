-- `check_parts::chars_fit` meets its contract.
use Rattle.std.proofs.Common.{refl, rules}
use borrow.Author.Tests.{tests}
use Rattle.check_parts.specs.PassLaws.{passes_all}
use Rattle.check_parts.proofs.chars_fit.Goals as goal

pub returns : goal.returns
returns c = passes_all _ 0 60 _ refl _ _ _ c.all.ensures.ran (λ x b q k. search (rules, tests))
