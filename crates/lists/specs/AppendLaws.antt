-- Tests of two lists laid end to end, part by part.
use Rattle.std.specs.Prelude.{Bool, true, false, ◌||◌, List, [], ◌∷◌, ◌++◌, T}
use Rattle.lists.specs.Lists.{all, any}
use Rattle.lists.specs.ListLaws.{T-both, all_head, all_tail}
use Rattle.lists.specs.BoolLaws.{T-second}

module _ {X : Type 0} (p : X → Bool) where
  pub all_append : (xs ys : List X) → T (all p xs) → T (all p ys) → T (all p (xs ++ ys))
  all_append [] ys h k = k
  all_append (x ∷ xs) ys h k = T-both (p x) (all p (xs ++ ys)) (all_head p x xs h) (all_append xs ys (all_tail p x xs h) k)

  pub all_left : (xs ys : List X) → T (all p (xs ++ ys)) → T (all p xs)
  all_left [] ys h = tt
  all_left (x ∷ xs) ys h = T-both (p x) (all p xs) (all_head p x (xs ++ ys) h) (all_left xs ys (all_tail p x (xs ++ ys) h))

  pub all_right : (xs ys : List X) → T (all p (xs ++ ys)) → T (all p ys)
  all_right [] ys h = h
  all_right (x ∷ xs) ys h = all_right xs ys (all_tail p x (xs ++ ys) h)

  pub any_left : (xs ys : List X) → T (any p xs) → T (any p (xs ++ ys))
  any_left [] ys h = absurd h
  any_left (x ∷ xs) ys h = go (p x) h (any_left xs ys)
    where
      go : (b : Bool) → T (b || any p xs) → (T (any p xs) → T (any p (xs ++ ys))) → T (b || any p (xs ++ ys))
      go true h k = tt
      go false h k = k h

  pub any-right : (xs ys : List X) → T (any p ys) → T (any p (xs ++ ys))
  any-right [] ys h = h
  any-right (x ∷ xs) ys h = T-second (p x) (any p (xs ++ ys)) (any-right xs ys h)
