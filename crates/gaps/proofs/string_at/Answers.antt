-- `gaps::string_at` meets its contract.
use Rattle.gaps.specs.Pool.{str}
use Rattle.gaps.proofs.string_at.Goals as goal

pub returns : goal.returns
unfolding str
returns c = rw (c.read-a.ensures.is, c.read-b.ensures.is)
