-- `names::own_reserved` meets its contract.
use mathlib.Core.Path.{refl, ◌∙◌, ap}
use Rattle.lists.specs.BoolLaws.{some-if}
use Rattle.names.proofs.Lowest.{own-told}
use Rattle.syntax.specs.Statements.{reserved}
use Rattle.names.proofs.own_reserved.Goals as goal

pub returns : goal.returns
returns c =
    (rw c.place_of.ensures at c.then_some.ensures) ∙ some-if _ _
    ∙ own-told c.args.text.now c.args.m (c.is_reserved.ensures ∙ ap reserved c.word_of.ensures) refl
