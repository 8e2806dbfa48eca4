-- Numbers in three cells: what is made of three bytes, and how great a signed one is.
use Rattle.std.specs.Prelude.{◌≡◌, refl, Bool, true, false, cond, [], ◌∷◌, ℕ, ◌+◌, ◌*◌, ◌-◌, ◌/◌, ◌%◌, ◌≤◌, ◌<◌, leb, pos, negsuc, nat_abs}
use Rattle.std.proofs.Common.{arith, leb-true, leb-false}
use Rattle.layout.specs.Cells.{three, uncode}

pub three-cells : (p q r : ℕ) → p < 256 → q < 256 → r < 256 → three (p + 256 * q + 65536 * r) ≡ p ∷ q ∷ r ∷ []
three-cells p q r a b c =
    let v : ℕ = p + 256 * q + 65536 * r in
    let x : v % 256 ≡ p = omega arith in
    let m : v / 256 ≡ q + 256 * r = omega arith in
    let y : v / 256 % 256 ≡ q = rw m (omega arith) in
    let z : v / 65536 ≡ r = omega arith in
    rw (x, y, z)

pub uncode-most : (v : ℕ) → v ≤ 16777214 → nat_abs (uncode v) ≤ 8388607
unfolding uncode
uncode-most v h = go (leb 8388607 v) refl
  where
    go : (b : Bool) → leb 8388607 v ≡ b → nat_abs (cond b (pos (v - 8388607)) (negsuc (8388606 - v))) ≤ 8388607
    go true e = omega (arith, leb-true 8388607 v e)
    go false e = omega (arith, leb-false 8388607 v e)
