-- `Working::is_plus` meets its contract.
use mathlib.Core.Path.{sym, ◌∙◌}
use Rattle.state.proofs.Standing.{held, plus-is}
use Rattle.lists.specs.BoolLaws.{sign-back}
use Rattle.state.proofs.Working.is_plus.Goals as goal

pub returns : goal.returns
returns c = sym (sign-back c.self.inside.scalars.plus) ∙ plus-is (held c.self.invariant c.self.view_is)
