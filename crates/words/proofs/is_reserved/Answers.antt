-- `words::is_reserved` meets its contract.
use mathlib.Core.Path.{◌∙◌}
use Rattle.words.proofs.KeywordLaws.{reserved-found}
use Rattle.words.proofs.is_reserved.Goals as goal

pub returns : goal.returns
returns c = c.is_some.ensures ∙ reserved-found c.args.w.now c.found.result c.found.ensures
