-- `headings::read_rest` meets its contract.
use mathlib.Core.Path.{sym, ◌∙◌, subst}
use Rattle.headings.specs.Headings.{Rests}
use Rattle.headings.specs.HeadingLaws.{rests-alone, rests-empty, rests-some}
use Rattle.headings.proofs.read_rest.Goals as goal

pub returns-then-stops : goal.returns-then-stops
returns-then-stops c = subst (Rests _ _ _) (sym c.no_items.ensures) (rests-alone c.requires (sym c.stops.ensures ∙ c.if-stops.true))

pub returns-then-stops-2 : goal.returns-then-stops-2
returns-then-stops-2 c =
    subst (Rests _ _ _) (sym c.no_items-then-stops-2.ensures)
    (rests-empty c.requires (sym c.stops.ensures ∙ c.if-stops.false) c.next_item-first.ensures (sym c.stops-2.ensures ∙ c.if-stops-2.true))

pub returns : goal.returns
returns c = rests-some c.requires (sym c.stops.ensures ∙ c.if-stops.false) c.next_item-first.ensures (sym c.stops-2.ensures ∙ c.if-stops-2.false) c.worse-w.ensures c.read_tail.ensures
