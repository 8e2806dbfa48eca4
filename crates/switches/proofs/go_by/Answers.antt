-- `switches::go_by` meets its contract.
use mathlib.Core.Path.{ap}
use Rattle.std.proofs.lemmas.Result.{err_from_is_err_and}
use Rattle.instructions.specs.Questions.{told_by}
use Rattle.instructions.proofs.Asking.{some}
use Rattle.jumps.proofs.Leading.{led-there}
use Rattle.jumps.specs.Jumps.{going_by}
use Rattle.switches.proofs.Rows.{fronted-after, went-by, went-full}
use Rattle.switches.proofs.go_by.Goals as goal

pub returns-in_err-lead : goal.returns-in_err-lead
returns-in_err-lead c =
    let e = err_from_is_err_and c.from_residual.result c.from_residual.ensures.1 in
    let s = c.args.source in
    rw (e.1, e.2) (went-full c.stands.ensures s.i c.args.way s.removes c.goal.ensures c.in_err-lead.ensures (some c.in_err-lead.field-0.0))

pub use_front-requires : goal.use_front-requires
use_front-requires c =
    let g = going_by c.args.way c.goal.result in
    fronted-after g c.requires.fronted (led-there g c.lead.ensures (ap told_by c.in_ok-lead.was))

pub returns : goal.returns
returns c =
    let g = going_by c.args.way c.goal.result in
    let s = c.args.source in
    went-by c.stands.ensures s.i c.args.way s.removes c.goal.ensures (led-there g c.lead.ensures (ap told_by c.in_ok-lead.was)) c.use_front.ensures
