-- `store::drop_front` meets its contract.
use Rattle.gaps.proofs.Laws.{shaped}
use Rattle.store.proofs.Laws.{front-dropped}
use native.Mathlib.Omega.{arith}
use Rattle.store.proofs.drop_front.Goals as goal

pub overflow_add-a : goal.overflow_add-a
overflow_add-a c =
    let pre = c.requires in
    omega (arith, c.read-a.ensures, shaped pre.fine pre.index, pre.within)

pub write-requires : goal.write-requires
write-requires c =
    let pre = c.requires in
    omega (arith, c.read-a.ensures, shaped pre.fine pre.index, pre.within, pre.fine.ordered.cells)

pub returns : goal.returns
returns c =
    let write = c.write in
    let read = c.read-a in
    let pre = c.requires in
    let args = c.args in
    rw (write.ensures, read.ensures.is) (front-dropped pre.fine pre.index args.n pre.within)
