-- `components::number_of` meets its contract.
use mathlib.Core.Path.{sym, ◌∙◌}
use native.Mathlib.Omega.{arith}
use Rattle.components.proofs.Fronts.{size-short, front-number}
use Rattle.components.proofs.number_of.Goals as goal

pub three_at-requires : goal.three_at-requires
three_at-requires c = omega (arith, (front-number c.args.x.now c.requires.kind_is).0, size-short _ (front-number c.args.x.now c.requires.kind_is).0)

pub returns : goal.returns
returns c = record { is = c.three_at.ensures.is ∙ sym (front-number c.args.x.now c.requires.kind_is).1; most = c.three_at.ensures.most }
