-- What `fresh` adds to a table: every value then stands in it, and its values stay different.
use Rattle.std.specs.Prelude.{◌≡◌, Bool, not, ◌||◌, T}
use Rattle.std.proofs.Math.Path.{refl, ap, sym}
use Rattle.std.proofs.Common.{◌∙◌, subst}
use Rattle.std.proofs.Math.Bool.{true, false, cond}
use mathlib.Core.List.{List, [], ◌∷◌, ◌++◌, map, map-append, append_assoc, append-nil}
use Rattle.std.proofs.Math.Facts.{or_no}
use Rattle.lists.specs.AppendLaws.{any_left, any-right}
use Rattle.lists.specs.BoolLaws.{T-first}
use Rattle.layout.specs.Below.Lists.{any}
use Rattle.layout.specs.Below.ListLaws.{T-left, T-right, T-both}
use Rattle.layout.specs.Bounds.{Each}
use Rattle.layout.proofs.CellLaws.{each_append, each_left}
use Rattle.layout.specs.Below.WellFormed.{different}
use Rattle.macros.specs.Below.Items.{Item}
use Rattle.macros.specs.Below.Tables.{fresh}
use Rattle.acceptance.proofs.RowLaws.{each_map}

join-not : (a b : Bool) → T (not a) → T (not b) → T (not (a || b))
join-not true b h k = absurd h
join-not false b h k = k

-- none passes: each fails
module _ {X : Type 0} (q : X → Bool) where
  pub none_each : (xs : List X) → T (not (any q xs)) → Each (λ x. T (not (q x))) xs
  none_each [] h = tt
  none_each (x ∷ xs) h = let k = or_no (q x) (any q xs) h in (k.0, none_each xs k.1)

  pub each-none-passes : (xs : List X) → Each (λ x. T (not (q x))) xs → T (not (any q xs))
  each-none-passes [] h = tt
  each-none-passes (x ∷ xs) h = join-not (q x) (any q xs) h.0 (each-none-passes xs h.1)

module _ {X : Type 0} (equal : X → X → Bool) (symmetric : (x y : X) → equal x y ≡ equal y x) where
  pub different-left : (xs ys : List X) → T (different equal (xs ++ ys)) → T (different equal xs)
  different-left [] ys h = tt
  different-left (x ∷ xs) ys h =
      let k = none_each (equal x) (xs ++ ys) (T-left (not (any (equal x) (xs ++ ys))) (different equal (xs ++ ys)) h) in
      T-both (not (any (equal x) xs)) (different equal xs) (each-none-passes (equal x) xs (each_left (λ y. T (not (equal x y))) xs ys k))
      (different-left xs ys (T-right (not (any (equal x) (xs ++ ys))) (different equal (xs ++ ys)) h))

  -- elements that none of the first has
  pub different-append : (xs ys : List X) → T (different equal xs) → T (different equal ys) → Each (λ y. T (not (any (equal y) xs))) ys → T (different equal (xs ++ ys))
  different-append [] ys h k e = k
  different-append (x ∷ xs) ys h k e =
      T-both (not (any (equal x) (xs ++ ys))) (different equal (xs ++ ys))
      (each-none-passes (equal x) (xs ++ ys)
      (each_append (λ y. T (not (equal x y))) xs ys (none_each (equal x) xs (T-left (not (any (equal x) xs)) (different equal xs) h)) (each_map _ _ other ys e)))
      (different-append xs ys (T-right (not (any (equal x) xs)) (different equal xs) h) k (each_map _ _ (λ y n. (or_no (equal y x) (any (equal y) xs) n).1) ys e))
    where
      other : (y : X) → T (not (equal y x || any (equal y) xs)) → T (not (equal x y))
      other y n = rw (symmetric x y) (or_no (equal y x) (any (equal y) xs) n).0

  module _ (reflexive : (x : X) → T (equal x x)) (value_of_lem : Item → X) where
    abbrev after : List X → List Item → List X
    after t js = t ++ map value_of_lem (fresh equal value_of_lem t js)

    after-step : (t : List X) (i : Item) (js : List Item) → let new = cond (any (equal (value_of_lem i)) t) [] (i ∷ []) in after t (i ∷ js) ≡ after (t ++ map value_of_lem new) js
    unfolding fresh
    after-step t i js =
        let new = cond (any (equal (value_of_lem i)) t) [] (i ∷ []) in
        ap (λ l. t ++ l) (map-append value_of_lem new (fresh equal value_of_lem (t ++ map value_of_lem new) js))
        ∙ sym (append_assoc t (map value_of_lem new) (map value_of_lem (fresh equal value_of_lem (t ++ map value_of_lem new) js)))

    held : (b : Bool) (t : List X) (i : Item) → any (equal (value_of_lem i)) t ≡ b → T (any (equal (value_of_lem i)) (t ++ map value_of_lem (cond b [] (i ∷ []))))
    held true t i e = any_left (equal (value_of_lem i)) t [] (subst T (sym e) tt)
    held false t i e = any-right (equal (value_of_lem i)) t (value_of_lem i ∷ []) (T-first (equal (value_of_lem i) (value_of_lem i)) false (reflexive (value_of_lem i)))

    pub fresh_holds : (t : List X) (js : List Item) → Each (λ i. T (any (equal (value_of_lem i)) (after t js))) js
    fresh_holds t [] = tt
    fresh_holds t (i ∷ js) =
        let u = t ++ map value_of_lem (cond (any (equal (value_of_lem i)) t) [] (i ∷ [])) in
        subst (λ (l : List X). Each (λ k. T (any (equal (value_of_lem k)) l)) (i ∷ js)) (sym (after-step t i js)) (any_left (equal (value_of_lem i)) u (map value_of_lem (fresh equal value_of_lem u js)) (held (any (equal (value_of_lem i)) t) t i refl), fresh_holds u js)

    still-different : (b : Bool) (t : List X) (i : Item) → any (equal (value_of_lem i)) t ≡ b → T (different equal t)
        → T (different equal (t ++ map value_of_lem (cond b [] (i ∷ []))))
    still-different true t i e h = rw (append-nil t) h
    still-different false t i e h = different-append t (value_of_lem i ∷ []) h tt (subst (λ b. T (not b)) (sym e) tt, tt)

    pub fresh-different : (t : List X) (js : List Item) → T (different equal t) → T (different equal (after t js))
    unfolding fresh
    fresh-different t [] h = rw (append-nil t) h
    fresh-different t (i ∷ js) h =
        rw (after-step t i js)
        (fresh-different (t ++ map value_of_lem (cond (any (equal (value_of_lem i)) t) [] (i ∷ []))) js (still-different (any (equal (value_of_lem i)) t) t i refl h))

    pub fresh-from : (P : Item → Type 0) (t : List X) (js : List Item) → Each P js → Each P (fresh equal value_of_lem t js)
    unfolding fresh
    fresh-from P t [] h = tt
    fresh-from P t (i ∷ js) h =
        let new = cond (any (equal (value_of_lem i)) t) [] (i ∷ []) in
        each_append P new (fresh equal value_of_lem (t ++ map value_of_lem new) js) (one (any (equal (value_of_lem i)) t)) (fresh-from P (t ++ map value_of_lem new) js h.1)
      where
        one : (b : Bool) → Each P (cond b [] (i ∷ []))
        one true = tt
        one false = (h.0, tt)
