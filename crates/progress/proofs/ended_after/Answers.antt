-- `progress::ended_after` meets its contract.
use mathlib.Core.Path.{refl, ap, sym, ◌∙◌}
use mathlib.Core.Bool.{true, false}
use Rattle.headings.specs.Below.Heads.{instr_by}
use Rattle.headings.specs.Below.HeadLaws.{no-number}
use Rattle.progress.specs.AdvancingLaws.{ended-before, ended-numbered}
use Rattle.progress.proofs.ended_after.Goals as goal

pub returns-in_default : goal.returns-in_default
returns-in_default c = λ s n g. ended-before g refl (no-number _ (c.in_default.ensures ∙ ap instr_by c.keyword.ensures)) _

pub returns-then-is_end : goal.returns-then-is_end
returns-then-is_end c = λ s n g. ended-numbered g (c.in-Some.ensures ∙ ap instr_by c.keyword.ensures) c.from.ensures _ true (sym c.is_end.ensures ∙ c.if-is_end.true)

pub returns : goal.returns
returns c = λ s n g. ended-numbered g (c.in-Some.ensures ∙ ap instr_by c.keyword.ensures) c.from.ensures _ false (sym c.is_end.ensures ∙ c.if-is_end.false)
