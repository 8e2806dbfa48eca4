-- `gaps::put_front` meets its contract.
use Rattle.gaps.proofs.Laws.{shaped, front-room, front-pushed}
use native.Mathlib.Omega.{arith}
use Rattle.gaps.proofs.put_front.Goals as goal

pub overflow_sub-at : goal.overflow_sub-at
overflow_sub-at c =
    let pre = c.requires in
    omega (arith, c.read-to.ensures, front-room pre.fine pre.index pre.gap)

pub put-requires : goal.put-requires
put-requires c =
    let pre = c.requires in
    omega (arith, c.read-to.ensures, shaped pre.fine pre.index, front-room pre.fine pre.index pre.gap, pre.fine.size)

pub write-requires : goal.write-requires
write-requires c =
    let read = c.read-to in
    let pre = c.requires in
    omega (arith, read.ensures, shaped pre.fine pre.index, pre.fine.ordered.cells, pre.index)

pub returns : goal.returns
returns c =
    let write = c.write in
    let put = c.put in
    let read = c.read-to in
    let pre = c.requires in
    let args = c.args in
    rw (write.ensures, put.ensures, read.ensures.is) (front-pushed pre.fine pre.index args.bytes.now pre.gap pre.total)
