-- `packed::put_chars` meets its contract.
use Prim.Native.Nat.{◌+◌, ◌*◌, ◌-◌, ◌/◌}
use mathlib.Core.Path.{◌≡◌, refl}
use native.Mathlib.Omega.{arith}
use lib.ListN.{get_or}
use Rattle.packed.proofs.Bytes.{copy-turn, copy_rest, copied}
use Rattle.packed.proofs.put_chars.Goals as goal

pub loop-q-preserved : goal.loop-q-preserved
loop-q-preserved c =
    let h = c.loop-q in
    copy-turn c.args.row.now c.args.out.now h.q (omega arith) (get_or c.args.row.now h.q 0) refl h.out c.put_four.new.out (omega arith) h.invariant c.put_four.ensures

pub returns-then-fours-m : goal.returns-then-fours-m
returns-then-fours-m c =
    let r = c.args.row.now in
    let o = c.args.out.now in
    let h = c.loop-q in
    let m = c.min-m.result in
    let q = m / 4 in
    let e : h.q ≡ q = omega arith in
    let n = m - 4 * q in
    let y = c.put_rest.new.out in
    copied r (omega arith) c.args.n m (4 * q + n) o y c.min-m.ensures (omega arith)
    (copy_rest r o q (omega arith) (get_or r q 0) refl h.out y n (omega arith) (omega arith) (rw e at h.invariant) c.put_rest.ensures)

pub returns-else-fours-m : goal.returns-else-fours-m
returns-else-fours-m c =
    let h = c.loop-q in
    copied c.args.row.now (omega arith) c.args.n c.min-m.result (4 * h.q) c.args.out.now h.out c.min-m.ensures (omega arith) h.invariant
