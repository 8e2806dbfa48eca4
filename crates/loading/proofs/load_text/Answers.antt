-- `loading::load_text` meets its contract.
use mathlib.Core.Path.{◌≡◌}
use Rattle.std.proofs.Common.{rules, Err}
use Rattle.loading.proofs.Outcomes.{unread, text-refused, finishable, text-finished}
use Rattle.loading.proofs.load_text.Goals as goal

pub read_statements-requires : goal.read_statements-requires
read_statements-requires c = unread c.requires

pub finish-requires : goal.finish-requires
finish-requires c = finishable c.requires c.read_statements.ensures c.in_ok-p.p c.in_ok-p.was

pub returns-in_err-p : goal.returns-in_err-p
returns-in_err-p c =
    let f : c.from_residual.result ≡ Err c.in_err-p.field-0.0 = search rules in
    rw f (text-refused c.requires c.read_statements.ensures c.in_err-p.field-0.0 c.in_err-p.was)

pub returns : goal.returns
returns c = text-finished c.requires c.read_statements.ensures c.in_ok-p.p c.in_ok-p.was c.finish.ensures
