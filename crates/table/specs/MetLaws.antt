-- The first entry met, as the machine keeps it and as `find_entry` finds it.
use Rattle.std.specs.Prelude.{◌≡◌, refl, Bool, true, false, cond, List, [], ◌∷◌, ℕ, suc, ltb, length, get_or}
use Rattle.std.proofs.Common.{◌∙◌, arith, lt-ltb}
use Rattle.std.proofs.Math.Dec.{leb-suc-suc}
use Rattle.packed.specs.Below.Lists.{ahead, filled, if_any, keep}

module _ {X : Type 0} (q : X → Bool) (d : X) where
  -- whether one passes the test, and the first that does
  abbrev pub one_passes : List X → Bool
  one_passes xs = ltb (ahead q xs) (length xs)

  pub keep-first : {Y : Type 0} (y : Y) (f : X → Y) (xs : List X) → if_any y f (keep q xs) ≡ cond (one_passes xs) (f (get_or xs (ahead q xs) d)) y
  keep-first y f [] = refl
  keep-first y f (x ∷ xs) = go (q x) (keep-first y f xs)
    where
      go : (b : Bool) → if_any y f (keep q xs) ≡ cond (one_passes xs) (f (get_or xs (ahead q xs) d)) y → let n : ℕ = elim b [ true ↦ 0 | false ↦ suc (ahead q xs) ] in
          if_any y f (cond b (x ∷ keep q xs) (keep q xs)) ≡ cond (ltb n (suc (length xs))) (f (get_or (x ∷ xs) n d)) y
      go true h = rw (lt-ltb 0 (suc (length xs)) (omega arith))
      go false h = rw (leb-suc-suc (suc (ahead q xs)) (length xs)) h

  pub keep-filled : (xs : List X) → filled (keep q xs) ≡ one_passes xs
  keep-filled xs = filled-any (keep q xs) ∙ keep-first false (λ x. true) xs ∙ bool (one_passes xs)
    where
      filled-any : (ys : List X) → filled ys ≡ if_any false (λ x. true) ys
      filled-any [] = refl
      filled-any (y ∷ ys) = refl

      bool : (b : Bool) → cond b true false ≡ b
      bool true = refl
      bool false = refl
