-- `check_memory::Memory::is_distinct` meets its contract.
use native.Mathlib.Omega.{arith}
use Rattle.check_memory.proofs.Loops.{gathering-none, within, gathering-room, fits, gathering-next, gathered}
use mathlib.Core.Path.{sym}
use lib.Seq.{length-take-le}
use Rattle.check_memory.proofs.Memory.is_distinct.Goals as goal

pub loop-i-init : goal.loop-i-init
loop-i-init c = gathering-none c.args.self.now c.args.list.now

pub slice_bounds-collect-start : goal.slice_bounds-collect-start
slice_bounds-collect-start c = within c.requires c.loop-i.invariant

pub slice_bounds-collect-count : goal.slice_bounds-collect-count
slice_bounds-collect-count c = within c.requires c.loop-i.invariant

pub offset_bounds-list-n : goal.offset_bounds-list-n
offset_bounds-list-n c = omega (arith, within c.requires c.loop-i.invariant)

pub collect-n-requires : goal.collect-n-requires
collect-n-requires c = gathering-room c.requires c.loop-i.invariant (omega arith) c.string.ensures

pub overflow_add-n : goal.overflow_add-n
overflow_add-n c = omega (arith, fits c.requires c.loop-i.invariant (omega arith) c.string.ensures c.collect-n.ensures)

pub loop-i-preserved : goal.loop-i-preserved
loop-i-preserved c =
    gathering-next c.requires c.loop-i.invariant (omega arith) c.string.ensures c.collect-n.ensures _ (omega (arith, fits c.requires c.loop-i.invariant (omega arith) c.string.ensures c.collect-n.ensures)) (omega arith)

pub slice_bounds-are_different-end : goal.slice_bounds-are_different-end
slice_bounds-are_different-end c = within c.requires c.loop-i.invariant

pub slice_bounds-are_different-end-2 : goal.slice_bounds-are_different-end-2
slice_bounds-are_different-end-2 c = sym (length-take-le _ _ (within c.requires c.loop-i.invariant))

pub returns : goal.returns
returns c =
    let pre = c.requires in
    let loop = c.loop-i in
    gathered pre loop.invariant (omega arith) c.are_different.ensures
