-- `state_lines::put_file` meets its contract.
use mathlib.Core.List.{[], ◌∷◌}
use mathlib.Core.Path.{◌≡◌, ap, ◌∙◌}
use Prim.Native.Nat.{ℕ, ◌+◌, ◌/◌, ◌%◌}
use lib.ListN.{length}
use Rattle.cells.specs.Cells.{pasted}
use Rattle.hexadecimal.specs.Below.Frames.{file, sum}
use Rattle.hexadecimal.specs.Below.Hexadecimal.{hexadecimal}
use Rattle.state_lines.proofs.Writing.{file-put}
use Rattle.state_lines.proofs.put_file.Goals as goal

pub returns : goal.returns
returns c =
    let a = c.args in
    let b = a.before.now in
    let k = length b in
    let n = 2 + (k + length a.after.now) in
    let total = c.sum_from-sum.ensures.is ∙ ap (λ (f : ℕ). ((f + (a.index + (n / 256 + (n % 256 + (k % 256 + k / 256))))) % 256 + sum b) % 256) (c.from.ensures ∙ c.of-slot.ensures.kind) in
    let front : c.put_lengths.new.dst ≡ pasted a.dst.now a.at (hexadecimal (file ∷ a.index ∷ n / 256 ∷ n % 256 ∷ k % 256 ∷ k / 256 ∷ [])) =
    rw (c.of-slot.ensures.kind, c.of-slot.ensures.index) at c.put_lengths.ensures in
    file-put a.dst.now a.at a.index b a.after.now c.requires.room c.requires.some c.sum_from-sum.result c.sum_from-all.result c.put_lengths.new.dst c.put_bytes.new.dst c.put_bytes-2.new.dst c.put_end.new.dst total c.sum_from-all.ensures.is front c.put_bytes.ensures c.put_bytes-2.ensures c.put_end.ensures
