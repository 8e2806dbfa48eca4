-- `progress::progress_after` meets its contract.
use native.Mathlib.Omega.{arith}
use mathlib.Core.Path.{refl}
use Rattle.progress.specs.WaitingLaws.{advances}
use Rattle.progress.proofs.progress_after.Goals as goal

pub first_waiting-from-requires : goal.first_waiting-from-requires
first_waiting-from-requires c = c.requires.few

pub slice_bounds-lowest_mark-start : goal.slice_bounds-lowest_mark-start
slice_bounds-lowest_mark-start c = let a = c.requires in omega (arith, c.first_waiting-from.ensures, a.few, a.order)

pub slice_bounds-lowest_mark-end : goal.slice_bounds-lowest_mark-end
slice_bounds-lowest_mark-end c = c.requires.most

pub waiting_after-requires : goal.waiting_after-requires
waiting_after-requires c = let a = c.requires in omega (arith, c.first_waiting-from.ensures, a.few, a.order)

pub returns : goal.returns
returns c =
    let a = c.requires in
    let from = c.first_waiting-from.ensures in
    λ s n g section after.
    advances g (omega (arith, a.few, a.order)) a.most section c.edition_after.ensures refl (rw from at c.waiting_after.ensures)
    (rw from at c.lowest_mark-labels.ensures) (c.closing_after.ensures s n _ g after) (c.ended_after.ensures s n g)
