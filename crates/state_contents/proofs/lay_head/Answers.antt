-- `state_contents::lay_head` meets its contract.
use Rattle.std.proofs.Common.{rules, arith}
use lib.ListN.{length-take}
use Rattle.state_contents.proofs.Laying.{head-other, head-put}
use Rattle.state_contents.proofs.lay_head.Goals as goal

pub slice_bounds-put-end : goal.slice_bounds-put-end
slice_bounds-put-end c = omega arith

pub put-requires : goal.put-requires
put-requires c =
    simp length-take (omega (arith, c.requires))

pub returns-then-eq : goal.returns-then-eq
returns-then-eq c = head-put c.contents.ensures (search rules) c.put.ensures

pub returns-else-eq : goal.returns-else-eq
returns-else-eq c = head-other (omega arith) c.contents.ensures (search rules)
