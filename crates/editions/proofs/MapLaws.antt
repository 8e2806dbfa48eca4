-- Lists of which every element is changed by a function: what is taken, kept and found of them.
use Rattle.std.specs.Prelude.{◌≡◌, refl, Bool, true, false, cond, ◌||◌, List, [], ◌∷◌, ◌++◌, map}
use Rattle.std.proofs.Common.{ap, sym, ◌∙◌}
use Rattle.std.proofs.lemmas.List.{map-append}
use Rattle.lists.specs.Lists.{any, filled, head_or, if_any, keep, each}

module _ {X Y : Type 0} (g : X → Y) where
  pub map-cond : (b : Bool) (x y : List X) → map g (cond b x y) ≡ cond b (map g x) (map g y)
  map-cond true x y = refl
  map-cond false x y = refl

  pub map-filled : (xs : List X) → filled (map g xs) ≡ filled xs
  map-filled [] = refl
  map-filled (x ∷ xs) = refl

  pub map-keep : (p : Y → Bool) (xs : List X) → keep p (map g xs) ≡ map g (keep (λ x. p (g x)) xs)
  map-keep p [] = refl
  map-keep p (x ∷ xs) = ap (λ zs. cond (p (g x)) (g x ∷ zs) zs) (map-keep p xs) ∙ sym (map-cond (p (g x)) (x ∷ keep (λ x. p (g x)) xs) (keep (λ x. p (g x)) xs))

  pub map-any : (p : Y → Bool) (xs : List X) → any p (map g xs) ≡ any (λ x. p (g x)) xs
  map-any p [] = refl
  map-any p (x ∷ xs) = ap (λ b. p (g x) || b) (map-any p xs)

  pub map-if_any : {Z : Type 0} (z : Z) (h : Y → Z) (xs : List X) → if_any z h (map g xs) ≡ if_any z (λ x. h (g x)) xs
  map-if_any z h [] = refl
  map-if_any z h (x ∷ xs) = refl

  pub map-head_or : (x : X) (xs : List X) → head_or (g x) (map g xs) ≡ g (head_or x xs)
  map-head_or z [] = refl
  map-head_or z (x ∷ xs) = refl

  pub map-of-each : {W : Type 0} (h : W → List X) (ws : List W) → map g (each h ws) ≡ each (λ w. map g (h w)) ws
  map-of-each h [] = refl
  map-of-each h (w ∷ ws) = map-append g (h w) (each h ws) ∙ ap (λ zs. map g (h w) ++ zs) (map-of-each h ws)

pub each_same : {X Y : Type 0} (h k : X → List Y) → ((x : X) → h x ≡ k x) → (xs : List X) → each h xs ≡ each k xs
each_same h k e [] = refl
each_same h k e (x ∷ xs) = let a = e x in let b = each_same h k e xs in cc

pub map_same : {X Y : Type 0} (h k : X → Y) → ((x : X) → h x ≡ k x) → (xs : List X) → map h xs ≡ map k xs
map_same h k e [] = refl
map_same h k e (x ∷ xs) = let a = e x in let b = map_same h k e xs in cc
