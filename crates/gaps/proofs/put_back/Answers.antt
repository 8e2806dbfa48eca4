-- `gaps::put_back` meets its contract.
use Rattle.gaps.proofs.Laws.{back-room, back-pushed}
use native.Mathlib.Omega.{arith}
use Rattle.gaps.proofs.put_back.Goals as goal

pub put-requires : goal.put-requires
put-requires c =
    let pre = c.requires in
    omega (arith, c.read-at.ensures, back-room pre.fine pre.index pre.gap, pre.fine.size)

pub overflow_add-at : goal.overflow_add-at
overflow_add-at c =
    let read = c.read-at in
    let pre = c.requires in
    omega (arith, read.ensures, back-room pre.fine pre.index pre.gap)

pub write-requires : goal.write-requires
write-requires c =
    let read = c.read-at in
    let pre = c.requires in
    omega (arith, read.ensures, back-room pre.fine pre.index pre.gap, pre.fine.ordered.cells, pre.index)

pub returns : goal.returns
returns c =
    let write = c.write in
    let put = c.put in
    let read = c.read-at in
    let pre = c.requires in
    let args = c.args in
    rw (write.ensures, put.ensures, read.ensures.is) (back-pushed pre.fine pre.index args.bytes.now pre.gap pre.total)
