-- `linking::resolve_argument` meets its contract.
use native.Mathlib.Omega.{arith}
use mathlib.Core.Path.{◌≡◌, sym}
use Prim.Native.Nat.{◌%◌}
use Rattle.std.proofs.Common.{rules}
use Rattle.finding.proofs.Found.{labels-counted}
use Rattle.writing.proofs.Rooms.{argument-place}
use Rattle.linking.proofs.Steps.{label-put, switch-put, none-kind, switch-low}
use Rattle.linking.proofs.Uses.{switches-most}
use Rattle.linking.proofs.resolve_argument.Goals as goal

pub argument_cell-x-requires : goal.argument_cell-x-requires
argument_cell-x-requires c = let a = c.requires in (omega (arith, a.at.there, a.at.asking.holds.tabular.code_most), a.place)

pub label_for-v-requires : goal.label_for-v-requires
label_for-v-requires c = labels-counted _ _ c.requires.at.asking.holds

pub set_argument-requires : goal.set_argument-requires
set_argument-requires c = argument-place _ _ c.requires.at.asking.holds _ _ _ c.requires.at.there c.requires.place (omega (arith, c.cell.ensures.1))

pub returns-in-Ok-Label : goal.returns-in-Ok-Label
returns-in-Ok-Label c =
    let e : 2 ≡ c.argument_cell-x.result % 8 = rw (c.in-Ok-Label.is, c.in-Ok-Label.field-0-is) at c.in_cell.ensures.number_is in
    label-put c.args.text.now c.args.sw.now c.args.table.now c.args.k c.args.j _ c.requires c.argument_cell-x.ensures.is c.label_for-v.result (sym e) (rw c.value_in-m.ensures at c.label_for-v.ensures)
    (rw c.cell.ensures.0 at c.set_argument.ensures)

pub shared_ref_as_front-switch_for : goal.shared_ref_as_front-switch_for
shared_ref_as_front-switch_for c = switches-most c.switches.result c.requires.at.asking c.switches.ensures.is

pub cell-requires-in-Ok-Switch : goal.cell-requires-in-Ok-Switch
cell-requires-in-Ok-Switch c = omega (arith, switch-low c.args.text.now c.args.sw.now c.switches.result _ c.switch_for-v.result c.requires.at.asking c.switches.ensures.is c.switch_for-v.ensures)

pub set_argument-requires-in-Ok-Switch : goal.set_argument-requires-in-Ok-Switch
set_argument-requires-in-Ok-Switch c = argument-place _ _ c.requires.at.asking.holds _ _ _ c.requires.at.there c.requires.place (omega (arith, c.cell-in-Ok-Switch.ensures.1))

pub returns-in-Ok-Switch : goal.returns-in-Ok-Switch
returns-in-Ok-Switch c =
    let e : 3 ≡ c.argument_cell-x.result % 8 = rw (c.in-Ok-Switch.is, c.in-Ok-Switch.field-0-is) at c.in_cell.ensures.number_is in
    switch-put c.args.text.now c.args.sw.now c.args.table.now c.args.k c.args.j _ c.requires c.argument_cell-x.ensures.is c.switches.result c.switch_for-v.result (sym e) c.switches.ensures.is
    (rw c.value_in-m.ensures at c.switch_for-v.ensures) (rw c.cell-in-Ok-Switch.ensures.0 at c.set_argument-in-Ok-Switch.ensures)

pub returns : goal.returns
returns c = none-kind c.args.text.now c.args.sw.now c.args.table.now c.args.k c.args.j _ c.requires c.argument_cell-x.ensures.is c.in_cell.ensures (λ e. search rules) (λ e. search rules)

pub returns-2 : goal.returns-2
returns-2 c = none-kind c.args.text.now c.args.sw.now c.args.table.now c.args.k c.args.j _ c.requires c.argument_cell-x.ensures.is c.in_cell.ensures (λ e. search rules) (λ e. search rules)
