-- `progress::end_fault` meets its contract.
use mathlib.Core.Path.{◌∙◌}
use Rattle.headings.specs.Below.HeadLaws.{place-if}
use Rattle.progress.specs.ClosingLaws.{ends}
use Rattle.progress.proofs.end_fault.Goals as goal

pub returns : goal.returns
returns c = ends c.args.last c.order_fault.ensures c.lower-statements.ensures (c.then_some.ensures ∙ place-if _ _) c.lower-section.ensures (c.then_some-2.ensures ∙ place-if _ _) c.lower-code.ensures c.lower.ensures c.lower-2.ensures
