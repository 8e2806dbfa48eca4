-- `store::drop_back` meets its contract.
use Rattle.gaps.proofs.Laws.{shaped}
use Rattle.store.proofs.Laws.{back-dropped}
use native.Mathlib.Omega.{arith}
use Rattle.store.proofs.drop_back.Goals as goal

pub overflow_sub-b : goal.overflow_sub-b
overflow_sub-b c =
    let pre = c.requires in
    omega (arith, c.read-b.ensures, shaped pre.fine pre.index, pre.within)

pub returns : goal.returns
returns c =
    let write = c.write in
    let read = c.read-b in
    let pre = c.requires in
    let args = c.args in
    rw (write.ensures, read.ensures.is) (back-dropped pre.fine pre.index args.n pre.within)
