-- `pointers::zamien_exprs` meets its contract.
use Rattle.pointers.proofs.Rows.{zamien-exprs}
use Rattle.pointers.proofs.zamien_exprs.Goals as goal

pub returns : goal.returns
returns c = zamien-exprs c.args.i c.args.j c.exchange_exprs.ensures
