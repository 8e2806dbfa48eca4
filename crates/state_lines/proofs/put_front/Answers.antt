-- `state_lines::put_front` meets its contract.
use mathlib.Core.List.{[], ◌∷◌}
use mathlib.Core.Path.{◌≡◌, subst}
use Prim.Native.Nat.{◌/◌, ◌%◌}
use Rattle.cells.specs.Cells.{pasted}
use Rattle.hexadecimal.specs.Below.Hexadecimal.{hexadecimal}
use Rattle.state_lines.proofs.Writing.{front-put}
use Rattle.state_lines.proofs.put_front.Goals as goal

pub returns : goal.returns
returns c =
    let a = c.args in
    let one = c.put_byte in
    let two = c.put_byte-2 in
    let three = c.put_byte-3 in
    let four = c.put_byte-4 in
    subst (λ k. four.new.dst ≡ pasted a.dst.now a.at (hexadecimal (k ∷ a.slot.index ∷ a.n / 256 ∷ a.n % 256 ∷ []))) c.from.ensures
    (front-put a.dst.now a.at c.from.result a.slot.index (a.n / 256) (a.n % 256) one.new.dst two.new.dst three.new.dst four.new.dst c.requires.room one.ensures two.ensures three.ensures four.ensures)
