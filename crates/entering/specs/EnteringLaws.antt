-- The values of a row of items come to a table one by one.
use Rattle.std.specs.Prelude.{◌≡◌, Bool, not, ◌&&◌, ℕ, suc, ◌+◌, ◌-◌, ◌<◌, leb, length}
use Rattle.std.proofs.Math.Path.{refl}
use Rattle.std.proofs.Common.{sym, ap, true≢false, arith, length-append, leb-true, leb-false}
use Rattle.std.proofs.Math.Bool.{true, false, cond}
use mathlib.Core.List.{List, [], ◌∷◌, ◌++◌, map, append_assoc, append-nil}
use Rattle.std.proofs.Math.Dec.{T}
use Rattle.std.proofs.lemmas.Bool.{not-true, not-false}
use Rattle.lists.specs.Lists.{any, keep}
use Rattle.lists.specs.ListLaws.{all_head, all_tail, all_cons, all_keep}
use Rattle.statements.specs.PlaceLaws.{lowest-places}
use Rattle.statements.specs.Places.{stands_from, all_from}
use Rattle.statements.specs.StatementAt.{fault_of}
use Rattle.std.specs.Prelude.{Some}
use Rattle.syntax.specs.Items.{Item}
use Rattle.syntax.specs.Tables.{fresh}
use Rattle.entering.specs.Entering.{added, full, excess, all_added}

module _ {X : Type 0} (equal : X → X → Bool) (value_of_lem : Item → X) (passes : Item → Bool) where
  pub fresh-from : (p : ℕ) (u : List X) (ys : List Item) → T (all_from p ys) → T (all_from p (fresh equal value_of_lem u ys))
  unfolding fresh
  fresh-from p u [] h = tt
  fresh-from p u (y ∷ ys) h =
      let k : (v : List X) → T (all_from p (fresh equal value_of_lem v ys)) = λ v. fresh-from p v ys (all_tail (stands_from p) y ys h) in
      elim (any (equal (value_of_lem y)) u) as (λ b. let new : List Item = cond b [] (y ∷ []) in T (all_from p (new ++ fresh equal value_of_lem (u ++ map value_of_lem new) ys))) [
        | true ↦ k (u ++ [])
        | false ↦ all_cons (stands_from p) y (fresh equal value_of_lem (u ++ (value_of_lem y ∷ [])) ys) (all_head (stands_from p) y ys h) (k (u ++ (value_of_lem y ∷ [])))
      ]

  module _ (i : Item) (js : List Item) (t : List X) where
    abbrev x : X
    x = value_of_lem i

    abbrev rest : List X → List Item
    rest u = fresh equal value_of_lem u (keep passes js)

    -- an item that passes
    step : passes i ≡ true → (b : Bool) → any (equal x) t ≡ b → fresh equal value_of_lem t (keep passes (i ∷ js)) ≡ cond b [] (i ∷ []) ++ rest (cond b t (t ++ (x ∷ [])))
    unfolding fresh
    step h true e = rw (h, e) (ap (λ (u : List X). rest u) (append-nil t))
    step h false e = rw (h, e) refl

    abbrev pub GoesOn : List X → Type 0
    GoesOn u = (excess equal value_of_lem passes t (i ∷ js) ≡ excess equal value_of_lem passes u js) × (all_added equal value_of_lem passes t (i ∷ js) ≡ all_added equal value_of_lem passes u js)

    -- it does not pass, or has a place: the rest goes on with the table that has it
    pub goes_on : not (passes i && full equal x t) ≡ true → GoesOn (cond (passes i) (added equal x t) t)
    goes_on f = go (passes i) (any (equal x) t) refl refl f
      where
        go : (p b : Bool) → passes i ≡ p → any (equal x) t ≡ b → not (p && (not b && leb 128 (length t))) ≡ true → GoesOn (cond p (cond b t (t ++ (x ∷ []))) t)
        go false b h e q = (rw h, rw h)
        go true true h e q = (rw (step h true e), rw (step h true e))
        go true false h e q =
            let l : length t < 128 = leb-false 128 (length t) (not-true (leb 128 (length t)) q) in
            let n : length (t ++ (x ∷ [])) ≡ length t + 1 = simp length-append (omega arith) in
            let m : 128 - length t ≡ suc (128 - length (t ++ (x ∷ []))) = omega (arith, n, l) in
            (rw (step h false e, m), rw (step h false e) (sym (append_assoc t (x ∷ []) (map value_of_lem (rest (t ++ (x ∷ [])))))))

    -- it has no place, and is the first in excess
    pub excess-here : not (passes i && full equal x t) ≡ false → T (all_from i.at js) → fault_of (excess equal value_of_lem passes t (i ∷ js)) ≡ Some i.at
    excess-here f w = go (passes i) (any (equal x) t) refl refl f
      where
        go : (p b : Bool) → passes i ≡ p → any (equal x) t ≡ b → not (p && (not b && leb 128 (length t))) ≡ false → fault_of (excess equal value_of_lem passes t (i ∷ js)) ≡ Some i.at
        go false b h e q = absurd (true≢false q)
        go true true h e q = absurd (true≢false q)
        go true false h e q =
            let l : 128 - length t ≡ 0 = omega (arith, leb-true 128 (length t) (not-false (leb 128 (length t)) q)) in
            rw (step h false e, l)
            (ap Some (lowest-places i.at (rest (t ++ (x ∷ []))) (fresh-from i.at (t ++ (x ∷ [])) (keep passes js) (all_keep (stands_from i.at) passes js w))))
