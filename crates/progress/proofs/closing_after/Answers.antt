-- `progress::closing_after` meets its contract.
use mathlib.Core.Path.{sym, ap, ◌∙◌}
use Rattle.headings.specs.Headings.{is_kons, is_konp}
use Rattle.headings.specs.Below.HeadLaws.{place-if}
use Rattle.progress.specs.ClosingLaws.{labels-only, closes}
use Rattle.progress.proofs.closing_after.Goals as goal

pub returns-then-stops : goal.returns-then-stops
returns-then-stops c = λ s n section g f. labels-only g section (sym c.stops.ensures ∙ c.if-stops.true)

pub returns : goal.returns
returns c =
    λ s n section g f. closes g section (sym c.stops.ensures ∙ c.if-stops.false) f (c.is_kons.ensures ∙ ap is_kons c.keyword-keyword.ensures) (c.is_konp-konp.ensures ∙ ap is_konp c.keyword-keyword.ensures) (c.then_some-early.ensures ∙ place-if _ _) c.lower.ensures
    c.closing_fault.ensures c.lower-2.ensures
