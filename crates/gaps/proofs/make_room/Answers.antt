-- `gaps::make_room` meets its contract.
use Rattle.gaps.proofs.Laws.{same-made, less-made}
use native.Mathlib.Omega.{arith}
use Rattle.gaps.proofs.make_room.Goals as goal

pub returns-then-low-n : goal.returns-then-low-n
returns-then-low-n c =
    let pre = c.requires in
    let gap-start = c.gap_start-low in
    same-made pre.fine gap-start.ensures c.gap_end-high.ensures c.if-low-n.true

pub returns : goal.returns
returns c =
    let relayout = c.relayout in
    let total-len = c.total_len-held in
    let pre = c.requires in
    less-made relayout.ensures (omega (arith, total-len.ensures, pre.total))
