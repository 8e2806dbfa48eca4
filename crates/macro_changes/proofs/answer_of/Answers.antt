-- `macro_changes::answer_of` meets its contract.
use mathlib.Core.Path.{sym, ◌∙◌}
use Rattle.macro_changes.proofs.Giving.{joined-answer, other-answer, parameter-answer, typed-answer}
use Rattle.macro_changes.proofs.answer_of.Goals as goal

pub returns-in-Some : goal.returns-in-Some
returns-in-Some c = let k = c.find_parameter-k in
    rw (c.unwrap_or.ensures, c.count_in.ensures, c.is_some.ensures) (joined-answer c.args.coded.now.text.now c.args.coded.now.code.now c.args.x c.requires.held c.in-Some.is c.requires.few k.result k.ensures c.is_identifier.ensures)

pub returns-then-not-is : goal.returns-then-not-is
returns-then-not-is c = other-answer c.args.coded.now.text.now c.args.coded.now.code.now c.args.x c.requires.held c.in_default.is (sym c.is.ensures ∙ c.if-not-is.true)

pub returns-in-Some-find_parameter : goal.returns-in-Some-find_parameter
returns-in-Some-find_parameter c = parameter-answer c.args.coded.now.text.now c.args.coded.now.code.now c.args.x c.requires.held c.in_default.is (sym c.is.ensures ∙ c.if-not-is.false) c.in-Some-find_parameter.ensures c.requires.few

pub returns-in-None : goal.returns-in-None
returns-in-None c = typed-answer c.args.coded.now.text.now c.args.coded.now.code.now c.args.x c.requires.held c.in_default.is (sym c.is.ensures ∙ c.if-not-is.false) c.in-None.ensures
