-- `hexadecimal::put_bytes` meets its contract. The invariant: the first j bytes of `src` are written.
use native.Mathlib.Omega.{arith}
use mathlib.Core.Path.{refl}
use Rattle.hexadecimal.proofs.Laws.{written_none, written-turn}
use Rattle.hexadecimal.proofs.put_bytes.Goals as goal

pub loop-j-init : goal.loop-j-init
loop-j-init c = (refl, written_none c.args.dst.now c.args.at c.args.src.now)

pub loop-j-preserved : goal.loop-j-preserved
loop-j-preserved c =
    let loop = c.loop-j in
    let put = c.put_byte in
    (omega arith, written-turn c.args.dst.now c.args.at c.args.src.now loop.dst put.new.dst loop.j c.from.result loop.invariant.1 c.requires (omega arith) c.from.ensures put.ensures)
