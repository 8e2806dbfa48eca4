-- `linking::resolve_entries` meets its contract.
use native.Mathlib.Omega.{arith}
use mathlib.Core.Path.{◌∙◌}
use lib.ListN.{length, length-take}
use lib.Seq.{get_or-take}
use Rattle.finding.proofs.Found.{labels-counted}
use Rattle.layout.specs.Table.{all_entries}
use Rattle.writing.proofs.Held.{entry_count}
use Rattle.linking.specs.Resolving.{entry_resolved}
use Rattle.linking.proofs.Faults.{entries-most, entries-fit}
use Rattle.linking.proofs.Steps.{entry_ready, entry-put, all_first, all-next, all_done}
use Rattle.linking.proofs.resolve_entries.Goals as goal

pub shared_ref_as_front-mark-items : goal.shared_ref_as_front-mark-items
shared_ref_as_front-mark-items c = entries-most c.entries-n.ensures.is c.requires.holds

pub loop-k-init : goal.loop-k-init
loop-k-init c = all_first (entry_resolved c.args.text.now c.args.en.now) c.args.table.now

pub label_for-v-requires : goal.label_for-v-requires
label_for-v-requires c = labels-counted _ _ (c.loop-k.invariant.holds c.requires.program c.requires.holds)

pub set_entry_label-requires : goal.set_entry_label-requires
set_entry_label-requires c = entry_ready c.args.text.now c.args.en.now c.entries-n.result c.loop-k.k c.entries-n.ensures.is c.requires (omega (arith, c.loop-k-test.true, length-take c.entries-n.result c.args.en.now)) _ c.label_for-v.result (get_or-take c.entries-n.result c.args.en.now c.loop-k.k 0 (omega (arith, c.loop-k-test.true, length-take c.entries-n.result c.args.en.now))) c.loop-k.invariant c.label_for-v.ensures

pub loop-k-preserved : goal.loop-k-preserved
loop-k-preserved c = all-next (entry_resolved c.args.text.now c.args.en.now) c.loop-k.k c.loop-k.invariant (entry-put c.args.text.now c.args.en.now c.loop-k.k _ c.label_for-v.result (get_or-take c.entries-n.result c.args.en.now c.loop-k.k 0 (omega (arith, c.loop-k-test.true, length-take c.entries-n.result c.args.en.now))) c.label_for-v.ensures c.set_entry_label.ensures)

pub returns : goal.returns
returns c = all_done (entry_resolved c.args.text.now c.args.en.now) (λ p. length (all_entries p)) (λ p h. c.entries-n.ensures.is ∙ entry_count _ p h) (omega (arith, c.loop-k-test.false, entries-fit c.args.en.now c.entries-n.ensures.is c.told-en c.requires.holds)) (omega (arith, entries-fit c.args.en.now c.entries-n.ensures.is c.told-en c.requires.holds)) c.loop-k.invariant
