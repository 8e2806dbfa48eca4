-- `declaring::put_name` meets its contract.
use mathlib.Core.Path.{ap}
use Rattle.declaring.proofs.Naming.{name-room}
use Rattle.std.proofs.Common.{length}
use Rattle.declaring.proofs.put_name.Goals as goal

pub put_label-requires : goal.put_label-requires
put_label-requires c = name-room c.requires (ap length c.word_of.ensures)

pub returns : goal.returns
returns c = rw c.word_of.ensures at c.put_label.ensures
