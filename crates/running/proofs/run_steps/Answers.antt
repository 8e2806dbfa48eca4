-- `running::run_steps` meets its contract.
use mathlib.Core.Path.{refl, sym, ap, ◌∙◌}
use Rattle.instructions.specs.Questions.{told_by}
use Rattle.instructions.proofs.Asking.{some}
use Rattle.running.proofs.Loop.{going-none, going_more, ran-stop, ran-pause}
use Rattle.running.proofs.run_steps.Goals as goal

pub loop-count-init : goal.loop-count-init
loop-count-init c = going-none c.requires c.args.budget

pub returns-in-Err : goal.returns-in-Err
returns-in-Err c =
    let told = ap told_by c.in-Err.is in
    ran-stop c.loop-count.invariant c.step.ensures c.loop-count-test.true (λ z. some c.in-Err.q (sym told ∙ z)) (sym told) refl

pub loop-count-preserved : goal.loop-count-preserved
loop-count-preserved c = going_more c.loop-count.invariant c.step.ensures c.loop-count-test.true (ap told_by c.in_default.is)

pub returns : goal.returns
returns c = ran-pause c.loop-count.invariant c.loop-count-test.false refl refl
