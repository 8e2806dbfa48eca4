-- `headings::section_fault` meets its contract.
use mathlib.Core.Path.{sym, ap, ◌∙◌}
use Rattle.heads.specs.Heads.{opens}
use Rattle.headings.specs.HeadingLaws.{first-in_front, first-empty, first-named, first-wrong}
use Rattle.headings.proofs.section_fault.Goals as goal

pub returns-then-head-op : goal.returns-then-head-op
returns-then-head-op c = λ n w g k. first-in_front g c.if-head-op.true

pub returns-then-stops : goal.returns-then-stops
returns-then-stops c = λ n w g k. first-empty g c.if-head-op.false (sym c.stops.ensures ∙ c.if-stops.true)

pub returns-then-opens : goal.returns-then-opens
returns-then-opens c = λ n w g k. first-named g c.if-head-op.false (sym c.stops.ensures ∙ c.if-stops.false) (sym (c.opens.ensures ∙ ap opens c.keyword.ensures) ∙ c.if-opens.true) k c.is_name_first.ensures c.name_fault.ensures

pub returns : goal.returns
returns c = λ n w g k. first-wrong g c.if-head-op.false (sym c.stops.ensures ∙ c.if-stops.false) (sym (c.opens.ensures ∙ ap opens c.keyword.ensures) ∙ c.if-opens.false)
