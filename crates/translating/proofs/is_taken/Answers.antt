-- `translating::is_taken` meets its contract.
use mathlib.Core.Path.{◌∙◌}
use Rattle.translating.proofs.Outcomes.{taken-by}
use Rattle.translating.proofs.is_taken.Goals as goal

pub returns : goal.returns
returns c =
    c.is_ok.ensures.value ∙ taken-by c.args.text.now c.requires c.load_typed.ensures
