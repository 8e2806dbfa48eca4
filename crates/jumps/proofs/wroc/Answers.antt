-- `jumps::wroc` meets its contract.
use Rattle.jumps.proofs.Rows.{a-call, wroc-none, wroc-done}
use Rattle.jumps.proofs.wroc.Goals as goal

pub returns-then-depth-eq0 : goal.returns-then-depth-eq0
returns-then-depth-eq0 c = wroc-none c.depth.ensures.stands c.depth.ensures c.if-depth-eq0.true

pub returns : goal.returns
returns c = wroc-done (a-call c.depth.ensures c.if-depth-eq0.false) c.go_back.ensures
