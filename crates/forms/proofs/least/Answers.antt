-- `forms::least` meets its contract.
use Rattle.std.proofs.Common.{rules, refl}
use Rattle.forms.proofs.Tables.{least-counted}
use Rattle.forms.proofs.least.Goals as goal

pub returns : goal.returns
returns c = let h = least-counted c.args.op (search rules) in rw (c.needed.ensures, c.sets_by.ensures, h.0) (refl, h.1)
