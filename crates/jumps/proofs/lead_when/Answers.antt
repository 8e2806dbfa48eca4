-- `jumps::lead_when` meets its contract.
use mathlib.Core.Path.{ap}
use Rattle.std.proofs.lemmas.Result.{err_from_is_err_and}
use Rattle.instructions.specs.Questions.{told_by}
use Rattle.instructions.proofs.Asking.{some}
use Rattle.jumps.specs.Jumps.{going_by, led_to}
use Rattle.jumps.proofs.Leading.{led-there}
use Rattle.jumps.proofs.Rows.{target_is, if-on, if-gone, if-full}
use Rattle.jumps.proofs.lead_when.Goals as goal

pub returns-then-not-taken : goal.returns-then-not-taken
returns-then-not-taken c =
    let t = c.args.table.cells.now in
    if-on t c.args.label c.args.taken (going_by c.args.way (led_to t c.args.label)) c.if-not-taken.true c.go_on.ensures c.set_plus.ensures

pub returns-in_err-lead : goal.returns-in_err-lead
returns-in_err-lead c =
    let e = err_from_is_err_and c.from_residual.result c.from_residual.ensures.1 in
    λ ins. rw (e.1, e.2) (if-full c.args.table.cells.now c.args.label c.args.taken c.stands.ensures c.args.way c.if-not-taken.false (target_is c.requires.label c.target.ensures) c.in_err-lead.ensures (some c.in_err-lead.field-0.0) ins)

pub returns : goal.returns
returns c =
    let there = led-there (going_by c.args.way c.target.result) c.lead.ensures (ap told_by c.in_ok-lead.was) in
    if-gone c.args.table.cells.now c.args.label c.args.taken c.args.way c.if-not-taken.false (target_is c.requires.label c.target.ensures) there c.set_plus-2.ensures
