-- `linking::note` meets its contract.
use mathlib.Core.Bool.{not}
use mathlib.Core.Path.{ap, ◌∙◌}
use Rattle.std.specs.Bool.{then_some}
use Rattle.statements.specs.Faults.{lower}
use Rattle.linking.proofs.Faults.{joined-unless}
use Rattle.linking.proofs.note.Goals as goal

pub returns : goal.returns
returns c =
    c.lower.ensures ∙ ap (lower c.args.f) (c.then_some.ensures ∙ ap (then_some (not c.args.fine)) c.place_of.ensures) ∙ joined-unless c.args.f c.args.fine _
