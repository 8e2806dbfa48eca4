-- `words::keyword_of` meets its contract.
use mathlib.Core.Path.{◌∙◌}
use Rattle.words.proofs.KeywordLaws.{known-found, known-unfound}
use Rattle.words.proofs.keyword_of.Goals as goal

pub returns-in_err-edition : goal.returns-in_err-edition
returns-in_err-edition c = c.from_residual.ensures ∙ known-unfound c.args.w.now c.found.result c.found.ensures c.in_err-edition.was

pub returns : goal.returns
returns c = known-found c.args.w.now c.in_ok-edition.edition c.in_ok-edition.j c.in_ok-edition.ensures c.keyword_at-keyword.ensures (rw c.is_shared.ensures at c.then_some.ensures)
