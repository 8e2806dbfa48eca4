-- `check_table::numbers_fit` meets its contract.
use Rattle.std.proofs.Common.{arith, rules}
use borrow.Author.Tests.{tests}
use Rattle.check_parts.specs.PassLaws.{passes_all}
use Rattle.check_table.proofs.numbers_fit.Goals as goal

pub returns : goal.returns
returns c = passes_all _ 0 c.args.n _ (omega arith) _ _ _ c.all.ensures.ran (λ x b q k. search (rules, tests))
