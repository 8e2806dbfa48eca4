-- `check_memory::starts_of` meets its contract.
use native.Mathlib.Omega.{arith}
use Rattle.check_memory.proofs.Starts.{starting-none, starting-next, started}
use Rattle.check_memory.proofs.starts_of.Goals as goal

pub loop-i-init : goal.loop-i-init
loop-i-init c = starting-none c.args.m.now c.args.starts.now c.requires.places

pub write-requires : goal.write-requires
write-requires c = record { room = omega (arith, c.loop-i.invariant.count); most = omega (arith, c.loop-i.invariant.small) }

pub loop-i-preserved : goal.loop-i-preserved
loop-i-preserved c =
    let loop = c.loop-i in
    let write = c.write in
    starting-next loop.invariant (omega arith) c.two_at-at.ensures write.ensures

pub returns : goal.returns
returns c = started c.loop-i.invariant (omega arith)
