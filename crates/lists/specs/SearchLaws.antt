-- How many elements stand before the first that passes, and what `xs.iter().position(p)` answers by that: its place, or the length where there is none.
use Rattle.std.specs.List.{position_or_len}
use Rattle.std.specs.Prelude.{◌≡◌, refl, Bool, true, false, not, cond, ◌||◌, List, [], ◌∷◌, map, suc, ◌+◌, ◌<◌, T, ltb, length, nat_lt, position, unwrap_or, Some, None}
use Rattle.std.proofs.Common.{ap, sym, subst, ◌∙◌, arith, ltb→lt, ltb-false, lt-ltb}
use Rattle.std.proofs.Math.Dec.{leb-suc-suc}
use Rattle.lists.specs.ListLaws.{ahead-le}
use Rattle.lists.specs.Lists.{any, ahead}

pub ahead-map : {X Y : Type 0} (p : Y → Bool) (f : X → Y) (xs : List X) → ahead p (map f xs) ≡ ahead (λ x. p (f x)) xs
ahead-map p f [] = refl
ahead-map p f (x ∷ xs) = ap (λ n. elim (p (f x)) [ true ↦ 0 | false ↦ suc n ]) (ahead-map p f xs)

module _ {X : Type 0} (p : X → Bool) where
  pub ahead-is : (xs : List X) → ahead p xs ≡ position_or_len p xs
  ahead-is [] = refl
  ahead-is (x ∷ xs) = go (p x) (ahead-is xs)
    where
      go : (b : Bool) → ahead p xs ≡ position_or_len p xs → elim b [ true ↦ 0 | false ↦ suc (ahead p xs) ] ≡ cond (not b) (1 + position_or_len p xs) 0
      go true h = refl
      go false h = omega (arith, h)

  pub any-ahead : (xs : List X) → any p xs ≡ ltb (ahead p xs) (length xs)
  any-ahead [] = refl
  any-ahead (x ∷ xs) = go (p x) (any-ahead xs)
    where
      go : (b : Bool) → any p xs ≡ ltb (ahead p xs) (length xs) → (b || any p xs) ≡ ltb (elim b [ true ↦ 0 | false ↦ suc (ahead p xs) ]) (suc (length xs))
      go true h = sym (lt-ltb 0 (suc (length xs)) (omega arith))
      go false h = h ∙ sym (leb-suc-suc (suc (ahead p xs)) (length xs))

  pub ahead-below : (xs : List X) → T (any p xs) → ahead p xs < length xs
  ahead-below xs h = ltb→lt (ahead p xs) (length xs) (subst T (any-ahead xs) h)

  pub position_or_length : (xs : List X) → unwrap_or (position p xs) (length xs) ≡ ahead p xs
  position_or_length xs = go (nat_lt (position_or_len p xs) (length xs)) refl
    where
      go : (b : Bool) → nat_lt (position_or_len p xs) (length xs) ≡ b → unwrap_or (cond b (Some (position_or_len p xs)) None) (length xs) ≡ ahead p xs
      go true e = sym (ahead-is xs)
      go false e = omega (arith, ahead-is xs, ahead-le p xs, ltb-false _ _ e)
