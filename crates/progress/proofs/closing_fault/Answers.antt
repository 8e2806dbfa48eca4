-- `progress::closing_fault` meets its contract.
use mathlib.Core.Path.{refl, ap, sym, ◌∙◌}
use Rattle.headings.specs.Headings.{is_kons, is_konp}
use Rattle.progress.proofs.closing_fault.Goals as goal

pub returns-then-stops : goal.returns-then-stops
returns-then-stops c = rw (sym c.stops.ensures ∙ c.if-stops.true) refl

pub returns-then-c : goal.returns-then-c
returns-then-c c = rw (sym c.stops.ensures ∙ c.if-stops.false, c.if-c.true) c.lower.ensures

pub returns-then-is_konp : goal.returns-then-is_konp
returns-then-is_konp c = rw (sym c.stops.ensures ∙ c.if-stops.false, c.if-c.false, sym (c.is_konp.ensures ∙ ap is_konp c.keyword-keyword.ensures) ∙ c.if-is_konp.true) c.lower-then-is_konp.ensures

pub returns-then-c-2 : goal.returns-then-c-2
returns-then-c-2 c = rw (sym c.stops.ensures ∙ c.if-stops.false, c.if-c.false, sym (c.is_konp.ensures ∙ ap is_konp c.keyword-keyword.ensures) ∙ c.if-is_konp.false, c.if-c-2.true) c.lower-then-c-2.ensures

pub returns-then-is_kons : goal.returns-then-is_kons
returns-then-is_kons c = rw (sym c.stops.ensures ∙ c.if-stops.false, c.if-c.false, sym (c.is_konp.ensures ∙ ap is_konp c.keyword-keyword.ensures) ∙ c.if-is_konp.false, c.if-c-2.false, sym (c.is_kons.ensures ∙ ap is_kons c.keyword-keyword.ensures) ∙ c.if-is_kons.true) c.lower-then-is_kons.ensures

pub returns : goal.returns
returns c = rw (sym c.stops.ensures ∙ c.if-stops.false, c.if-c.false, sym (c.is_konp.ensures ∙ ap is_konp c.keyword-keyword.ensures) ∙ c.if-is_konp.false, c.if-c-2.false, sym (c.is_kons.ensures ∙ ap is_kons c.keyword-keyword.ensures) ∙ c.if-is_kons.false) refl
