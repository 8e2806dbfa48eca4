-- `Draft::entries_fault` meets its contract.
use native.Mathlib.Omega.{arith}
use mathlib.Core.Bool.{true}
use lib.ListN.{length-take}
use lib.Seq.{get_or-take}
use Rattle.linking.proofs.Uses.{noted}
use Rattle.linking.proofs.Faults.{entries-most, entries-fit, entries-first, entries_next, entries_over}
use Rattle.linking.proofs.Draft.entries_fault.Goals as goal

pub shared_ref_as_front-mark-items : goal.shared_ref_as_front-mark-items
shared_ref_as_front-mark-items c = entries-most c.entries-n.ensures.is c.requires.tabled.holds

pub loop-mark-init : goal.loop-mark-init
loop-mark-init c = let a = c.args in entries-first a.self.now.text.now a.self.now.names.now a.self.now.table.cells.now a.en.now a.f

pub loop-mark-preserved : goal.loop-mark-preserved
loop-mark-preserved c = entries_next c.args.self.now.text.now c.args.self.now.names.now c.args.self.now.table.cells.now c.args.en.now c.args.f c.entries-n.result c.loop-mark.mark-index c.entries-n.ensures.is c.told-en _ (omega (arith, c.loop-mark-test.true, length-take c.entries-n.result c.args.en.now)) (get_or-take c.entries-n.result c.args.en.now c.loop-mark.mark-index 0 (omega (arith, c.loop-mark-test.true, length-take c.entries-n.result c.args.en.now))) c.loop-mark.invariant (noted c.args.self.now.text.now c.args.self.now.names.now c.args.self.now.table.cells.now 2 true _ c.loop-mark.g c.is_known.ensures c.note-g.ensures)

pub returns : goal.returns
returns c = entries_over c.args.self.now.text.now c.args.self.now.names.now c.args.self.now.table.cells.now c.args.en.now c.args.f c.entries-n.result c.loop-mark.mark-index c.entries-n.ensures.is c.told-en (omega (arith, c.loop-mark-test.false, entries-fit c.args.en.now c.entries-n.ensures.is c.told-en c.requires.tabled.holds)) c.loop-mark.invariant
