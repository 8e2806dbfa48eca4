-- What is read goes behind what is there.
use Rattle.std.proofs.Common.{rules}
use Rattle.eol2.proofs.Reading.{read-on}
use Rattle.eol2.proofs.read_full.Goals as goal

pub loop-done-preserved : goal.loop-done-preserved
loop-done-preserved g c = (search rules, read-on _ _ _ c.loop-done.done c.in-Ok.n _ _ _ c.loop-done.invariant.0 (search rules) c.loop-done.invariant.1 c.in-Ok.ensures.bytes.0)
