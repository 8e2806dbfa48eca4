-- `components::kind_of` meets its contract.
use mathlib.Core.Path.{refl, sym, ◌∙◌}
use borrow.Author.Tests.{eq-eqb, ne_eqb}
use Rattle.components.proofs.Fronts.{front-kind}
use Rattle.components.proofs.kind_of.Goals as goal

pub returns-then-x-ne0 : goal.returns-then-x-ne0
returns-then-x-ne0 c = sym (front-kind c.args.x.now ∙ rw (ne_eqb _ _ c.if-x-ne0.true) refl)

pub returns-then-x : goal.returns-then-x
returns-then-x c = sym (front-kind c.args.x.now ∙ rw (eq-eqb _ _ c.if-x-ne0.false, eq-eqb _ _ c.if-x.true) refl)

pub returns : goal.returns
returns c = sym (front-kind c.args.x.now ∙ rw (eq-eqb _ _ c.if-x-ne0.false, ne_eqb _ _ c.if-x.false) refl)
