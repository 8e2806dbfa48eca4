-- `names::met_before` meets its contract.
use Rattle.std.specs.Prelude.{Some}
use mathlib.Core.Path.{refl, sym, ap, ◌∙◌}
use Rattle.lists.specs.BoolLaws.{some-if}
use Rattle.names.specs.Names.{names_of}
use Rattle.names.proofs.Lowest.{own-asked}
use Rattle.names.proofs.met_before.Goals as goal

pub returns-then-has_name : goal.returns-then-has_name
returns-then-has_name c =
    let a = c.args in
    let e = c.place_of-at.ensures in
    let n = c.length_of-len.ensures in
    ap Some e
    ∙ own-asked a.text.now (names_of a.text.now a.before.now) (names_of a.text.now a.names.now) a.m (sym c.if-has_name.true ∙ (rw (e, n) at c.has_name.ensures)) refl refl

pub returns : goal.returns
returns c =
    let a = c.args in
    let e = c.place_of-at.ensures in
    let n = c.length_of-len.ensures in
    (rw e at c.then_some.ensures) ∙ some-if _ _
    ∙ own-asked a.text.now (names_of a.text.now a.before.now) (names_of a.text.now a.names.now) a.m (sym c.if-has_name.false ∙ (rw (e, n) at c.has_name.ensures)) (rw (e, n) at c.has_name-2.ensures) refl
