-- `declaring::put_labels` meets its contract.
use native.Mathlib.Omega.{arith}
use mathlib.Core.Path.{refl}
use Rattle.declaring.proofs.Naming.{putting-first, putting-done, nameable, putting-more}
use Rattle.declaring.proofs.put_labels.Goals as goal

pub loop-mark-init : goal.loop-mark-init
loop-mark-init c = putting-first c.requires

pub put_name-requires : goal.put_name-requires
put_name-requires c = nameable c.requires c.loop-mark.invariant c.loop-mark-test.true refl

pub loop-mark-preserved : goal.loop-mark-preserved
loop-mark-preserved c = putting-more c.requires c.loop-mark.invariant c.loop-mark-test.true refl c.put_name.ensures (omega arith)

pub returns : goal.returns
returns c = putting-done c.requires c.loop-mark.invariant (omega arith)
