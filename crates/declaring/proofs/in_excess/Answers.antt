-- `declaring::in_excess` meets its contract.
use mathlib.Core.Path.{refl, ◌∙◌}
use Rattle.declaring.proofs.Judging.{excess-told}
use Rattle.declaring.proofs.in_excess.Goals as goal

pub returns : goal.returns
returns c = c.then_some.ensures ∙ excess-told c.args.most c.args.count c.args.at _ refl
