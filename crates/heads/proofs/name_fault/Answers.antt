-- `heads::name_fault` meets its contract.
use mathlib.Core.Path.{ap, ◌∙◌}
use mathlib.Core.Bool.{Bool, not}
use Rattle.std.specs.Bool.{then_some}
use Rattle.heads.specs.HeadLaws.{place-unless}
use Rattle.heads.proofs.name_fault.Goals as goal

pub returns : goal.returns
returns c = c.then_some.ensures ∙ ap (λ (b : Bool). then_some (not b) c.args.at) c.is_name.ensures ∙ place-unless _ c.args.at
