-- `heads::keyword_at` meets its contract.
use mathlib.Core.Path.{sym, ◌∙◌}
use Rattle.heads.specs.HeadLaws.{word-known, other-known}
use Rattle.heads.proofs.keyword_at.Goals as goal

pub returns-then-is : goal.returns-then-is
returns-then-is c = c.keyword_of.ensures ∙ word-known c.args.text.now c.args.t (sym c.is.ensures ∙ c.if-is.true)

pub returns : goal.returns
returns c = other-known c.args.text.now c.args.t (sym c.is.ensures ∙ c.if-is.false)
