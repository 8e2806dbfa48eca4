-- `pointers::zamien_files` meets its contract.
use Rattle.pointers.proofs.Rows.{zamien-files}
use Rattle.pointers.proofs.zamien_files.Goals as goal

pub returns : goal.returns
returns c = zamien-files c.args.i c.args.j c.exchange_files.ensures
