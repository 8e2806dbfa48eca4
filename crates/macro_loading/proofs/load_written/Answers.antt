-- `macro_loading::load_written` meets its contract.
use mathlib.Core.Path.{◌≡◌}
use Rattle.std.proofs.Common.{rules, Err}
use Rattle.macro_loading.proofs.Outcomes.{unfit-leaves, lent, ready-leaves}
use Rattle.macro_loading.proofs.load_written.Goals as goal

pub load_lined-requires : goal.load_lined-requires
load_lined-requires c =
    lent c.requires c.prepare.ensures c.in_ok-n.n c.in_ok-n.was

pub returns-in_err-n : goal.returns-in_err-n
returns-in_err-n c =
    let e : c.from_residual.result ≡ Err c.in_err-n.field-0.0 = search rules in
    rw e (unfit-leaves c.requires c.prepare.ensures c.in_err-n.field-0.0 c.in_err-n.was)

pub returns : goal.returns
returns c = ready-leaves c.requires c.prepare.ensures c.in_ok-n.n c.in_ok-n.was c.load_lined.ensures
