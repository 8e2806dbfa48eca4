-- Rows whose first numbers are the same: the macros that they give are the same.
use Rattle.std.specs.Prelude.{◌≡◌, refl, List, ◌∷◌, ℕ, zero, suc, ◌+◌, ◌<◌, get_or, set}
use Rattle.std.proofs.Math.Path.{ap}
use Rattle.std.proofs.Common.{◌∙◌, arith, get_or-set_other}
use Rattle.layout.specs.Cells.{tab}
use Rattle.macro_code.specs.Code.{macro_in, macros_in}
use Rattle.macro_calls.specs.Calls.{FirstsKept}

tab-same : {X : Type 0} (n : ℕ) (f g : ℕ → X) → ((k : ℕ) → k < n → f k ≡ g k) → tab n f ≡ tab n g
unfolding tab
tab-same zero f g h = refl
tab-same (suc n) f g h =
    let a = h zero (omega arith) in
    let b = tab-same n (λ i. f (suc i)) (λ i. g (suc i)) (λ k l. h (suc k) (omega arith)) in
    λ i. a i ∷ b i

module _ (n : ℕ) (xs : List ℕ) where
  pub kept-all : FirstsKept n xs xs
  kept-all = record { same = λ k l. refl }

  -- a number that is put in behind them
  pub kept-behind : (p x : ℕ) → FirstsKept n xs (set xs (n + p) x)
  kept-behind p x = record { same = λ k l. get_or-set_other xs (n + p) k x 0 (λ e. omega (arith, e)) }

module _ {n : ℕ} {xs ys : List ℕ} (h : FirstsKept n xs ys) where
  pub kept_on : {zs : List ℕ} → FirstsKept n ys zs → FirstsKept n xs zs
  kept_on g = record { same = λ k l. g.same k l ∙ h.same k l }

  pub macros-kept : (s c : List ℕ) → macros_in s c ys n ≡ macros_in s c xs n
  unfolding macros_in
  macros-kept s c = tab-same n (λ k. macro_in s c (get_or ys k 0)) (λ k. macro_in s c (get_or xs k 0)) (λ k l. ap (macro_in s c) (h.same k l))
