-- `macro_questions::ask_whole` meets its contract.
use mathlib.Core.Path.{◌∙◌, ap}
use Rattle.lexer.specs.declared.Token.{Token}
use Rattle.statements.specs.Checks.{token_verdict}
use Rattle.statements.specs.Faults.{worse}
use Rattle.macro_questions.proofs.Asking.{asking-first, all_asked, asking-on}
use Rattle.macro_questions.proofs.ask_whole.Goals as goal

pub loop-t-init : goal.loop-t-init
loop-t-init c = asking-first

pub loop-t-preserved : goal.loop-t-preserved
loop-t-preserved c =
    let k = c.next_item.ensures.some _ c.in-Some.is in
    asking-on c.loop-t.invariant k.found k.there c.byte_at.ensures (c.worse-worst.ensures ∙ ap (λ (x : Token). worse c.loop-t.worst (token_verdict x)) c.judged.ensures)

pub returns : goal.returns
returns c = let k = c.next_item.ensures.none c.in_default.is in all_asked c.loop-t.invariant k.found c.requires k.none
