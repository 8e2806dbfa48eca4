-- `progress::begin` meets its contract.
use Rattle.progress.specs.ProgressLaws.{begun}
use Rattle.progress.proofs.begin.Goals as goal

pub returns : goal.returns
returns c = begun
