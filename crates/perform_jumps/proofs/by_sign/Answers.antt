-- `perform_jumps::by_sign` meets its contract.
use Rattle.performing.specs.PlaceLaws.{read-one}
use Rattle.perform_jumps.proofs.Operands.{label-asked, turning, sign-forms, sign-goes, sign-led}
use Rattle.perform_jumps.proofs.by_sign.Goals as goal

pub label_of-label-requires : goal.label_of-label-requires
label_of-label-requires c = (label-asked (read-one c.requires c.first.ensures) (sign-forms c.args.way c.args.plus)).labelled

pub lead_when-requires : goal.lead_when-requires
lead_when-requires c = turning (read-one c.requires c.first.ensures) (sign-forms c.args.way c.args.plus) c.label_of-label.ensures (sign-goes c.args.way c.args.plus)

pub returns : goal.returns
returns c = sign-led c.args.way c.args.plus (read-one c.requires c.first.ensures) c.label_of-label.ensures c.is_plus.ensures c.lead_when.ensures
