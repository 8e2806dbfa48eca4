-- `forms::most` meets its contract.
use Rattle.std.proofs.Common.{rules, refl}
use Rattle.forms.proofs.Tables.{most-counted}
use Rattle.forms.proofs.most.Goals as goal

pub returns : goal.returns
returns c = let h = most-counted c.args.op (search rules) in rw (c.not_empty.ensures, c.sets_by.ensures, h.0) (refl, h.1)
