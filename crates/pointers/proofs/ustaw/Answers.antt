-- `pointers::ustaw` meets its contract.
use mathlib.Core.Path.{sym, ap, ◌∙◌}
use Rattle.std.specs.Prelude.{is_some}
use Rattle.std.proofs.lemmas.Result.{err_from_is_err_and, IfOk-at_ok}
use Rattle.machine.specs.Changes.{past}
use Rattle.state.specs.Working.{nth, reading}
use Rattle.filing.specs.Files.{pointed_at}
use Rattle.instructions.specs.Questions.{told_by}
use Rattle.instructions.proofs.Answers.{one-after}
use Rattle.instructions.proofs.Fronts.{leading-kind}
use Rattle.pointers.proofs.Rows.{ustaw-stop, ustaw-missing, then-pointable, ustaw-done, address-droppable}
use Rattle.pointers.proofs.ustaw.Goals as goal

pub returns-in_err-x : goal.returns-in_err-x
returns-in_err-x c =
    let e = err_from_is_err_and c.from_residual.result c.from_residual.ensures.1 in
    let f = c.front_of.ensures in
    rw (e.1, e.2) (ustaw-stop f.stands c.args.source.removes c.requires.expression c.requires.file _ (sym (ap told_by c.in_err-x.was) ∙ f.told))

pub address_of-requires : goal.address_of-requires
address_of-requires c = leading-kind (IfOk-at_ok _ c.in_ok-x.was c.front_of.ensures.is)

pub returns-in_default : goal.returns-in_default
returns-in_default c =
    let f = IfOk-at_ok _ c.in_ok-x.was c.front_of.ensures.is in
    ustaw-missing f.lent.stands c.args.source.removes c.requires.expression c.requires.file f c.address_of.ensures c.locate.ensures (ap is_some c.in_default.is)

pub past_parts-requires : goal.past_parts-requires
past_parts-requires c =
    let f = IfOk-at_ok _ c.in_ok-x.was c.front_of.ensures.is in
    address-droppable f.lent.stands c.args.source.removes c.requires.expression c.requires.file f

pub point-requires-clause-pointable : goal.point-requires-clause-pointable
point-requires-clause-pointable c =
    let f = IfOk-at_ok _ c.in_ok-x.was c.front_of.ensures.is in
    then-pointable f.lent.stands c.args.source.removes c.requires.expression c.requires.file f c.address_of.ensures c.locate.ensures c.in-Some.is c.past_parts.ensures

pub returns : goal.returns
returns c =
    let f = IfOk-at_ok _ c.in_ok-x.was c.front_of.ensures.is in
    ustaw-done f.lent.stands c.args.source.removes c.requires.expression c.requires.file f c.address_of.ensures c.locate.ensures c.in-Some.is (one-after c.args.bench.now.state (past (nth (reading c.args.source.removes) c.args.source.i) 1) (pointed_at c.args.j c.in-Some.place.records) c.past_parts.ensures c.point.ensures)
