-- `macro_calls::find_macro` meets its contract.
use Rattle.std.proofs.Common.{sym, ◌∙◌}
use Rattle.macro_calls.proofs.Seeking.{finds-none, finds-alone}
use Rattle.macro_calls.proofs.find_macro.Goals as goal

pub returns-in_err-number : goal.returns-in_err-number
returns-in_err-number c = let x = c.args.list.now in
    rw c.from_residual.ensures (finds-none x.coded.text.now x.coded.code.now x.firsts.now c.args.name.now (sym c.first_named.ensures ∙ c.in_err-number.was))

pub returns : goal.returns
returns c = let x = c.args.list.now in
    finds-alone x.coded.text.now x.coded.code.now x.firsts.now c.args.name.now (sym c.first_named.ensures ∙ c.in_ok-number.was) c.split_at.ensures.back c.first_named-second.result c.first_named-second.ensures
    c.is_none.result c.is_none.ensures c.then_some.ensures
