-- `macro_values::Around::above` meets its contract.
use Rattle.std.proofs.Common.{sym, ◌∙◌}
use Rattle.macro_values.specs.ValueLaws.{typed-end, above-told, with-parameter, without-parameter}
use Rattle.macro_values.proofs.Around.above.Goals as goal

pub returns-in_err-k : goal.returns-in_err-k
returns-in_err-k c =
    let a = c.args in
    rw c.from_residual.ensures
    (sym (typed-end a.self.now.coded.code.now a.self.now.calls.now a.d a.g (without-parameter a.self.now.coded.code.now a.g _ c.given_at.ensures (sym c.parameter.ensures ∙ c.in_err-k.was))))

pub returns : goal.returns
returns c =
    let a = c.args in
    let p = with-parameter a.self.now.coded.code.now a.g _ _ c.given_at.ensures (sym c.parameter.ensures ∙ c.in_ok-k.was) in
    above-told a.self.now.coded.code.now a.self.now.calls.now a.d a.g c.in_ok-k.k c.argument_of.result p.0 p.1 c.argument_of.ensures
