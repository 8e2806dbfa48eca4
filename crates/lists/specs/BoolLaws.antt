-- Laws of tests that std does not have: one test beside another, and a test as a number or an Option.
use mir.Val.{bool_byte}
use Rattle.std.specs.Prelude.{◌≡◌, refl, Bool, true, false, cond, ◌||◌, Some, None, ℕ, zero, suc, ◌≤◌, T, eqb}
use Rattle.std.specs.Bool.{then_some}
use Rattle.std.proofs.Common.{arith}

pub T-first : (a b : Bool) → T a → T (a || b)
T-first true b h = tt
T-first false b h = absurd h

pub T-second : (a b : Bool) → T b → T (a || b)
T-second true b h = tt
T-second false b h = h

pub T-either : (a b : Bool) {X : Type 0} → T (a || b) → (T a → X) → (T b → X) → X
T-either true b h f g = f tt
T-either false b h f g = g h

pub same_test : (a b : Bool) → (T a → T b) → (T b → T a) → a ≡ b
same_test true true f g = refl
same_test true false f g = absurd (f tt)
same_test false true f g = absurd (g tt)
same_test false false f g = refl

-- 1 where it passes, and 0 else

pub sign-most : (b : Bool) → cond b 1 0 ≤ 1
sign-most true = omega arith
sign-most false = omega arith

pub sign-back : (b : Bool) → eqb (cond b 1 0) 1 ≡ b
sign-back true = refl
sign-back false = refl

pub sign-again : (n : ℕ) → n ≤ 1 → cond (eqb n 1) 1 0 ≡ n
sign-again zero h = refl
sign-again (suc zero) h = refl
sign-again (suc (suc n)) h = absurd (omega (arith, h))

pub byte-is : (b : Bool) → bool_byte b ≡ cond b 1 0
byte-is true = refl
byte-is false = refl

-- what is there where it passes

pub some-if : {X : Type 0} (b : Bool) (x : X) → then_some b x ≡ cond b (Some x) None
some-if true x = refl
some-if false x = refl
