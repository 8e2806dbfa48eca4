-- `is_call` meets its contract.
use Rattle.forms.proofs.Tables.{calls_by}
use Rattle.forms.proofs.is_call.Goals as goal

pub returns : goal.returns
returns c = calls_by c.try_from.result c.ranges.op.fits c.try_from.ensures c.is_ok_and.ensures
