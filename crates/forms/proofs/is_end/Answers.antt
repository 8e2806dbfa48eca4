-- `is_end` meets its contract.
use Rattle.forms.proofs.Tables.{ends_by}
use Rattle.forms.proofs.is_end.Goals as goal

pub returns : goal.returns
returns c = ends_by c.try_from.result c.ranges.op.fits c.try_from.ensures c.is_ok_and.ensures
