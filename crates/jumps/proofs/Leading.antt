-- To go on as an instruction says, or 59 where the return stack is full: what that does for a row that asks nothing of its own.
use mathlib.Core.Path.{◌≡◌, refl, sym, subst}
use mathlib.Core.Bool.{Bool, true, false, cond}
use mathlib.Core.List.{List}
use Prim.Native.Nat.{ℕ}
use native.Mathlib.Omega.{arith}
use lib.Dec.{leb}
use lib.ListN.{length}
use borrow.Author.Tests.{le-leb}
use Rattle.language.specs.Limits as limit
use Rattle.language.specs.Values.{Store, State}
use Rattle.machine.specs.Arguments.{none}
use Rattle.machine.specs.Effects.{Go}
use Rattle.machine.specs.Effects.Go.{jump}
use Rattle.machine.specs.Steps.{can_go, gone}
use Rattle.state.specs.Working.{HoldsState, Stands}
use Rattle.control.specs.Going.{going}
use Rattle.control.proofs.Laws.{made-going}
use Rattle.instructions.specs.Does.{Goes}
use Rattle.instructions.proofs.Goings.{none-yes, goes-made, goes-full}
use Rattle.jumps.specs.Jumps.{Led, going_by}
use Rattle.jumps.specs.declared.Way.{Way}
use Rattle.jumps.specs.declared.Way.TheVariants.{Jump, Call}

-- a jump or a call can be made on any stack
pub can_lead : (way : Way) (t : ℕ) (st : List ℕ) → can_go (going_by way t) st ≡ true
can_lead Jump t st = refl
can_lead Call t st = refl

-- a jump is always made
pub led-jump : {σ σ' : State} {t : ℕ} → HoldsState σ' (going (jump t) σ) → Led σ (jump t) 0 σ'
unfolding going
led-jump {σ} h = let q = le-leb (length σ.stack) limit.stack h.fine.stack_most in record { is = rw q refl; holds = rw q h }

-- the stack that g makes of the state σ is short enough
abbrev room : State → Go → Bool
room σ g = leb (length (gone g σ.next σ.stack).1) limit.stack

-- it has gone on
pub led-there : {σ : State} (g : Go) {x : ℕ} {σ' : State} → Led σ g x σ' → x ≡ 0 → HoldsState σ' (going g σ)
led-there {σ} g {x} {σ'} w z = go (room σ g) w.is w.holds
  where
    go : (b : Bool) → x ≡ cond b 0 59 → HoldsState σ' (cond b (going g σ) σ) → HoldsState σ' (going g σ)
    go true i k = k
    go false i k = absurd (omega (arith, i, z))

module _ {σ : State} (h : Stands σ) (g : Go) (can : can_go g σ.stack ≡ true) {x : ℕ} {σ' : State} (w : Led σ g x σ') where
  full : (t : Store) → room σ g ≡ false → x ≡ 59 → HoldsState σ' σ → Goes σ x σ' (none, t, g)
  full t q i k = subst (λ (s : State). Goes σ x s (none, t, g)) (sym k.is) (rw i (goes-full (none, t, g) none-yes can h q))

  -- the stack is full, whatever the row would make
  pub led-full : (t : Store) → (x ≡ 0 → ⊥) → Goes σ x σ' (none, t, g)
  led-full t z = go (room σ g) refl w.is w.holds
    where
      go : (b : Bool) → room σ g ≡ b → x ≡ cond b 0 59 → HoldsState σ' (cond b (going g σ) σ) → Goes σ x σ' (none, t, g)
      go true q i k = absurd (z i)
      go false q i k = full t q i k

  -- the row leaves the store as it is
  pub led-goes : Goes σ x σ' (none, σ.store, g)
  led-goes = go (room σ g) refl w.is w.holds
    where
      go : (b : Bool) → room σ g ≡ b → x ≡ cond b 0 59 → HoldsState σ' (cond b (going g σ) σ) → Goes σ x σ' (none, σ.store, g)
      go true q i k = rw i (goes-made (none, σ.store, g) none-yes can (rw (made-going none g σ) k))
      go false q i k = full σ.store q i k
