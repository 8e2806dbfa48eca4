-- `decimals::put_digits` meets its contract.
use mathlib.Core.Path.{refl, ap}
use Prim.Native.Nat.{ℕ, ◌+◌}
use native.Mathlib.Omega.{arith}
use Rattle.decimals.proofs.Digits.{digiting-none, digiting-next}
use Rattle.decimals.proofs.put_digits.Goals as goal

pub loop-i-init : goal.loop-i-init
loop-i-init c =
    let a = c.args in
    digiting-none a.out.now a.at a.n _ (ap (λ (k : ℕ). a.at + k) c.width.ensures.is)

pub loop-i-preserved : goal.loop-i-preserved
loop-i-preserved c =
    let widthᶜ = c.width in
    digiting-next c.loop-i.invariant c.loop-i-test.true (omega (arith, widthᶜ.ensures.is, widthᶜ.ensures.most, c.requires.room)) refl
