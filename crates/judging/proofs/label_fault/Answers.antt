-- `judging::label_fault` meets its contract.
use mathlib.Core.Path.{sym, ap, ◌∙◌}
use borrow.Author.Tests.{eqb-true, eqb-false}
use Rattle.heads.specs.Heads.{is_switch}
use Rattle.judging.proofs.Answers.{no_switch, no_label, labels-over}
use Rattle.judging.proofs.label_fault.Goals as goal

pub returns-then-not-is_switch : goal.returns-then-not-is_switch
returns-then-not-is_switch c = λ s n g ls m short. no_switch g (sym (c.is_switch.ensures ∙ ap is_switch c.keyword.ensures) ∙ c.if-not-is_switch.true) ls

pub returns-then-is_empty : goal.returns-then-is_empty
returns-then-is_empty c =
    let switch = sym (c.is_switch.ensures ∙ ap is_switch c.keyword.ensures) ∙ c.if-not-is_switch.false in
    λ s n g ls m short. no_label g switch c.args.labels.now (eqb-true _ 0 (sym c.if-is_empty.ensures)) ls m

pub returns : goal.returns
returns c =
    let switch = sym (c.is_switch.ensures ∙ ap is_switch c.keyword.ensures) ∙ c.if-not-is_switch.false in
    λ s n g ls m short. labels-over g switch c.args.labels.now (eqb-false _ 0 (sym c.if-is_empty.ensures)) c.lowest_mark.ensures ls m short
