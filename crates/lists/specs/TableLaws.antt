-- Laws for tables in code: a rule of all numbers below a bound by one computed test, and what the last arm of a match knows.
use Rattle.std.specs.Prelude.{◌≡◌, refl, Bool, true, false, ◌&&◌, ◌||◌, List, [], ◌∷◌, ℕ, zero, suc, ◌<◌, T}
use Rattle.std.proofs.Common.{sym, subst, ⊎_elim, le_of_suc-le-suc, not-suc-le-zero, eq-or-lt_of_le, ne_eqb}
use Rattle.std.specs.Bool.{beq}
use Rattle.lists.specs.Lists.{among}
use Rattle.lists.specs.ListLaws.{T-left, T-right}

pub beq-eq : (a b : Bool) → T (beq a b) → a ≡ b
beq-eq true true h = refl
beq-eq true false h = absurd h
beq-eq false true h = absurd h
beq-eq false false h = refl

-- f passes for each number below n
abbrev pub up_to : (ℕ → Bool) → ℕ → Bool
up_to f zero = true
up_to f (suc n) = f n && up_to f n

pub below : (f : ℕ → Bool) (n : ℕ) → T (up_to f n) → (k : ℕ) → k < n → T (f k)
below f zero t k h = absurd (not-suc-le-zero h)
below f (suc n) t k h =
    ⊎_elim (λ e. subst (λ (m : ℕ). T (f m)) (sym e) (T-left (f n) (up_to f n) t))
    (λ l. below f n (T-right (f n) (up_to f n) t) k l)
    (eq-or-lt_of_le (le_of_suc-le-suc h))

pub below-unless : (f g : ℕ → Bool) (n : ℕ) → T (up_to (λ k. f k || g k) n) → (k : ℕ) → k < n → f k ≡ false → T (g k)
below-unless f g n t k h e = rw e at (below (λ k. f k || g k) n t k h)

-- the last arm of a match on x after arms for the numbers ks: N, and x is none of them
abbrev pub Missed : Type 0 → List ℕ → ℕ → Type 0
Missed N [] x = N
Missed N (k ∷ ks) x = Missed (N × (x ≡ k → ⊥)) ks x

missed-all : (N : Type 0) (ks : List ℕ) (x : ℕ) → Missed N ks x → N × (among x ks ≡ false)
missed-all N [] x m = (m, refl)
missed-all N (k ∷ ks) x m =
    let r = missed-all (N × (x ≡ k → ⊥)) ks x m in
    let e = ne_eqb x k r.0.1 in
    (r.0.0, rw e r.1)

pub missed : (ks : List ℕ) (x : ℕ) → Missed (Unit {0}) ks x → among x ks ≡ false
missed ks x m = (missed-all (Unit {0}) ks x m).1
