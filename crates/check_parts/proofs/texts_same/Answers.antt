-- `check_parts::texts_same` meets its contract.
use Rattle.std.proofs.Common.{refl, rules}
use borrow.Author.Tests.{tests}
use Rattle.check_parts.specs.Parts.{texts_same}
use Rattle.check_parts.specs.PassLaws.{passes_all}
use Rattle.check_parts.proofs.texts_same.Goals as goal

pub returns : goal.returns
unfolding texts_same
returns c = passes_all _ 0 16 _ refl _ _ _ c.all.ensures.ran (λ x b q k. search (rules, tests))

pub returns-then-max-le-TABLE : goal.returns-then-max-le-TABLE
unfolding texts_same
returns-then-max-le-TABLE c = c.rows_same.ensures
