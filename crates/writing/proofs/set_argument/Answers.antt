-- `writing::set_argument` meets its contract.
use native.Mathlib.Omega.{arith}
use Rattle.writing.proofs.Settled.{argument-done}
use Rattle.writing.proofs.set_argument.Goals as goal

pub returns : goal.returns
returns c =
    argument-done c.args.table.now c.write.new.cells c.args.k c.args.j c.args.cell _ (omega arith) c.requires.there c.requires.few c.requires.place c.write.ensures
