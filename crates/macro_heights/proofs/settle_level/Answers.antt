-- `macro_heights::settle_level` meets its contract.
use Rattle.std.proofs.Common.{arith, length}
use Rattle.macro_heights.proofs.Passes.{pass_on}
use Rattle.macro_heights.proofs.settle_level.Goals as goal

pub loop-k-preserved : goal.loop-k-preserved
loop-k-preserved g c =
    let r = c.requires.1 in
    pass_on g.table (length c.args.firsts.now) c.args.level c.loop-k.invariant (omega arith) r.0 r.1.1.0 (r.1.1.1.1 _ _ _ c.height_of-height.ensures) c.settle.ensures
