-- `check_state::is_passed` meets its contract.
use mathlib.Core.Path.{refl, sym, ap, ◌∙◌, subst}
use Prim.Native.Nat.{◌≤◌}
use lib.ListN.{length}
use native.Mathlib.Omega.{arith}
use Rattle.check_memory.proofs.Steps.{laid-none, laid-some, walkable, both-whole}
use Rattle.check_memory.specs.Passes.{sound, counted, distinct, fitting}
use Rattle.check_memory.specs.Reads.{BothWhole, Comparable}
use Rattle.language.specs.Limits as limit
use Rattle.layout.specs.Cells.{three_at}
use Rattle.layout.specs.Places as layout
use Rattle.layout.specs.Table.{program_of}
use Rattle.check_state.proofs.Steps.{comparable, fails-1, fails-2, fails-3, fails-4, last}
use Rattle.check_state.proofs.is_passed.Goals as goal

pub returns-in_default : goal.returns-in_default
returns-in_default c =
    let task = c.args.task in
    fails-1 task.table.cells.now task.first.now task.second.now c.args.m.now refl (laid-none c.args.m.now c.laid.ensures c.in_default.is)

pub is_sound-requires : goal.is_sound-requires
is_sound-requires c =
    let m = c.args.m.now in
    let l = laid-some m c.laid.ensures c.in-Some.is in
    subst (λ x. three_at layout.last_cell x ≤ limit.addresses) (sym l.1) (walkable m refl l.0)

pub returns-then-not-is_sound : goal.returns-then-not-is_sound
returns-then-not-is_sound c =
    let task = c.args.task in
    let m = c.args.m.now in
    let l = laid-some m c.laid.ensures c.in-Some.is in
    fails-2 task.table.cells.now task.first.now task.second.now m refl l.0 (c.is_sound.ensures ∙ ap sound l.1) c.if-not-is_sound.true

pub is_counted-requires : goal.is_counted-requires
is_counted-requires c =
    let m = c.args.m.now in
    let l = laid-some m c.laid.ensures c.in-Some.is in
    subst BothWhole (sym l.1) (both-whole m refl l.0 (λ j. omega (arith, c.type_inv.m j)) (c.is_sound.ensures ∙ ap sound l.1) c.if-not-is_sound.false)

pub returns-then-not-is_counted : goal.returns-then-not-is_counted
returns-then-not-is_counted c =
    let task = c.args.task in
    let m = c.args.m.now in
    let l = laid-some m c.laid.ensures c.in-Some.is in
    fails-3 task.table.cells.now task.first.now task.second.now m refl l.0 (c.is_sound.ensures ∙ ap sound l.1) c.if-not-is_sound.false (c.is_counted.ensures ∙ ap counted l.1) c.if-not-is_counted.true

pub is_distinct-requires : goal.is_distinct-requires
is_distinct-requires c =
    let m = c.args.m.now in
    let l = laid-some m c.laid.ensures c.in-Some.is in
    let whole = both-whole m refl l.0 (λ j. omega (arith, c.type_inv.m j)) (c.is_sound.ensures ∙ ap sound l.1) c.if-not-is_sound.false in
    subst (λ x. Comparable x (length c.args.list.now)) (sym l.1) (comparable c.requires whole (c.is_counted.ensures ∙ ap counted l.1) c.if-not-is_counted.false)

pub returns-then-not-is_distinct : goal.returns-then-not-is_distinct
returns-then-not-is_distinct c =
    let task = c.args.task in
    let m = c.args.m.now in
    let l = laid-some m c.laid.ensures c.in-Some.is in
    fails-4 task.table.cells.now task.first.now task.second.now m refl l.0 (c.is_sound.ensures ∙ ap sound l.1) c.if-not-is_sound.false (c.is_counted.ensures ∙ ap counted l.1) c.if-not-is_counted.false (c.is_distinct.ensures ∙ ap distinct l.1) c.if-not-is_distinct.true

pub is_fitting-requires : goal.is_fitting-requires
is_fitting-requires c = c.requires.table

pub returns : goal.returns
returns c =
    let task = c.args.task in
    let m = c.args.m.now in
    let l = laid-some m c.laid.ensures c.in-Some.is in
    last task.table.cells.now task.first.now task.second.now m refl l.0 (c.is_sound.ensures ∙ ap sound l.1) c.if-not-is_sound.false (c.is_counted.ensures ∙ ap counted l.1) c.if-not-is_counted.false (c.is_distinct.ensures ∙ ap distinct l.1) c.if-not-is_distinct.false (c.is_fitting.ensures ∙ ap (fitting (program_of task.table.cells.now) task.first.now task.second.now) l.1)
