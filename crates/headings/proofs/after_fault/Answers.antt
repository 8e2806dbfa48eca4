-- `headings::after_fault` meets its contract.
use mathlib.Core.Path.{sym, ap, ◌∙◌}
use Rattle.headings.specs.Headings.{is_kons, is_konp}
use Rattle.headings.specs.HeadingLaws.{after-konp, after-kons}
use Rattle.headings.proofs.after_fault.Goals as goal

pub returns-then-is_konp : goal.returns-then-is_konp
returns-then-is_konp c = λ n w g k. after-konp g k c.args.section (sym (c.is_konp.ensures ∙ ap is_konp c.keyword-keyword.ensures) ∙ c.if-is_konp.true) c.is_named.ensures c.name_fault.ensures

pub returns : goal.returns
returns c = λ n w g k. after-kons g k c.args.section (sym (c.is_konp.ensures ∙ ap is_konp c.keyword-keyword.ensures) ∙ c.if-is_konp.false) (sym (c.is_kons.ensures ∙ ap is_kons c.keyword-keyword.ensures) ∙ c.if-not-is_kons.false) c.in_ok-first.was c.lower.ensures
