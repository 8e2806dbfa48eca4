-- `switches::entry_by` meets its contract.
use mathlib.Core.Path.{sym, ap, ◌∙◌}
use native.Mathlib.Omega.{arith}
use Rattle.std.proofs.lemmas.Result.{IfOk-at_ok}
use Rattle.instructions.specs.Questions.{told_by}
use Rattle.instructions.proofs.Fronts.{leading-kind}
use Rattle.switches.proofs.Fronts.{some-front, number-none, number-some}
use Rattle.switches.proofs.entry_by.Goals as goal

pub number_of-v-requires : goal.number_of-v-requires
number_of-v-requires c = leading-kind (IfOk-at_ok _ c.in_ok-x.was c.front_of.ensures.is)

pub returns-in_default : goal.returns-in_default
returns-in_default c =
    let l = (IfOk-at_ok _ c.in_ok-x.was c.front_of.ensures.is).lent in
    let q = sym (ap told_by c.in_ok-x.was) ∙ c.front_of.ensures.told in
    record { told = q; is = number-none c.requires.switch l (some-front c.args.state.now.store c.args.i 1 q) c.number_of-v.ensures (omega arith) }

pub returns : goal.returns
returns c =
    let l = (IfOk-at_ok _ c.in_ok-x.was c.front_of.ensures.is).lent in
    let q = sym (ap told_by c.in_ok-x.was) ∙ c.front_of.ensures.told in
    let f = some-front c.args.state.now.store c.args.i 1 q in
    let j = c.in-Some.ensures in
    record { told = q; is = rw c.then_some.ensures (number-some c.requires.switch l f c.number_of-v.ensures c.switch_count.ensures j.0 j.1) }
