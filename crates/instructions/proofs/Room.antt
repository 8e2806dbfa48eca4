-- Room by the totals of components and characters.
use mathlib.Core.Path.{◌≡◌, refl}
use mathlib.Core.Bool.{Bool, true, false, cond, ◌&&◌}
use Prim.Native.Nat.{ℕ, ◌+◌, ◌≤◌, ◌<◌}
use native.Mathlib.Omega.{arith}
use lib.Dec.{leb}
use borrow.Author.Tests.{le-leb, lt-leb, leb-true, leb-false}
use Rattle.state.specs.Below.Limits as limit
use Rattle.components.specs.declared.Amount.{Amount}
use Rattle.instructions.specs.Does.{More}

pub no_room : {x h : ℕ} (f k : ℕ) (b : Bool) → x ≡ h → limit.components + f < x + k → false ≡ (leb (h + k) (limit.components + f) && b)
no_room {x} {h} f k b q l = rw (← q, lt-leb (x + k) (limit.components + f) l) refl

pub room-left : {x h y g : ℕ} (f e k m : ℕ) → x ≡ h → x + k ≤ limit.components + f → y ≡ g
    → leb (y + m) (limit.characters + e) ≡ (leb (h + k) (limit.components + f) && leb (g + m) (limit.characters + e))
room-left {x} {h} f e k m q l r = rw (← q, ← r, le-leb (x + k) (limit.components + f) l) refl

-- what is freed is no more than what is read
pub freed-few : (f : Amount) (b : Bool) {r : Amount} → r ≡ record { parts = cond b f.parts 0; bytes = cond b f.bytes 0; chars = cond b f.chars 0 } → More f.parts f.chars → More r.parts r.chars
freed-few f true q h = record { parts_most = rw q h.parts_most; chars_most = rw q h.chars_most }
freed-few f false q h = record { parts_most = rw q (omega arith); chars_most = rw q (omega arith) }

-- where f is freed of b, and a is left
pub room-freed : (a b f k n : ℕ) → a + f ≡ b → leb (b + k) (n + f) ≡ leb (a + k) n
room-freed a b f k n q = go (leb (a + k) n) refl
  where
    go : (x : Bool) → leb (a + k) n ≡ x → leb (b + k) (n + f) ≡ x
    go true h = le-leb (b + k) (n + f) (omega (arith, leb-true (a + k) n h, q))
    go false h = lt-leb (b + k) (n + f) (omega (arith, leb-false (a + k) n h, q))
