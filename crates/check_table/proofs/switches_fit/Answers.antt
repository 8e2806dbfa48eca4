-- `check_table::switches_fit` meets its contract.
use native.Mathlib.Omega.{arith}
use Rattle.packed.specs.Packed.{table_of}
use Rattle.check_table.proofs.Turns.{switches-start, switches-stop, switches_on, switches-end}
use Rattle.check_table.proofs.switches_fit.Goals as goal

pub loop-k-init : goal.loop-k-init
loop-k-init c = (omega arith, switches-start (table_of c.args.table.cells.now) c.args.n)

pub returns-then-not-switch_fits : goal.returns-then-not-switch_fits
returns-then-not-switch_fits c =
    let h = c.loop-k in
    switches-stop (table_of c.args.table.cells.now) c.args.n h.k h.from _ h.invariant.1 _ c.switch_fits.ensures (omega arith) c.if-not-switch_fits.true

pub loop-k-preserved : goal.loop-k-preserved
loop-k-preserved c =
    let h = c.loop-k in
    (omega (arith, h.invariant.0, c.switch_count-from.ensures.most), switches_on (table_of c.args.table.cells.now) c.args.n h.k h.from _ h.invariant.1 _ c.switch_fits.ensures (omega arith) c.if-not-switch_fits.false c.switch_count-from.result c.switch_count-from.ensures.is)

pub returns : goal.returns
returns c =
    let h = c.loop-k in
    rw c.entries.ensures.is (switches-end (table_of c.args.table.cells.now) c.args.n h.k h.from _ h.invariant.1 (omega arith))
