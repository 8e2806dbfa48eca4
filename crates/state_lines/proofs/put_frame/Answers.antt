-- `state_lines::put_frame` meets its contract.
use mathlib.Core.Path.{ap, ◌∙◌}
use Prim.Native.Nat.{ℕ, ◌+◌, ◌/◌, ◌%◌}
use lib.ListN.{length}
use Rattle.hexadecimal.specs.Below.Frames.{sum}
use Rattle.state_lines.proofs.Writing.{frame-put}
use Rattle.state_lines.proofs.put_frame.Goals as goal

pub returns : goal.returns
returns c =
    let a = c.args in
    let w = a.contents.now in
    let n = length w in
    let total = c.sum_from-sum.ensures.is ∙ ap (λ (k : ℕ). ((k + (a.slot.index + (n / 256 + n % 256))) % 256 + sum w) % 256) c.from.ensures in
    frame-put a.dst.now a.at a.slot.kind a.slot.index w c.requires.room c.sum_from-sum.result c.put_front.new.dst c.put_bytes.new.dst c.put_end.new.dst total c.put_front.ensures c.put_bytes.ensures c.put_end.ensures
