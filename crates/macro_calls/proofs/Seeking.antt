-- The macros of a name: by the first cells of all, the only one, and the one that a hint names.
use Rattle.std.specs.Bool.{then_some}
use Rattle.std.specs.Prelude.{Option, is_some, not, ◌≡◌, refl, Bool, true, false, cond, List, [], ◌∷◌, map, ℕ, zero, suc, ◌+◌, ◌<◌, eqb, length, get_or, drop, Some, None, position, unwrap_or}
use Rattle.std.proofs.Common.{sym, true≢false, ap, ◌∙◌, add-one, arith}
use Rattle.std.proofs.Math.Path.{subst}
use Rattle.std.proofs.lemmas.Bool.{false≢true}
use Rattle.std.proofs.lemmas.List.Quantifiers.{position-Some}
use borrow.Author.Tests.{eqb-true, ne_eqb}
use lib.Dec.{T}
use lib.Seq.{drop-length}
use Rattle.layout.specs.Cells.{tab}
use Rattle.lists.specs.Lists.{ahead, bytes_equal, keep}
use Rattle.lists.specs.ListLaws.{same_bytes-eq}
use Rattle.lists.specs.SearchLaws.{position_or_length}
use Rattle.macros.specs.Expansion.{called_by}
use Rattle.macro_code.specs.Code.{bytes_at, macro_in, macros_in}
use Rattle.macro_code.specs.Known.{Singles}
use Rattle.macro_calls.specs.Calls.{Finds}
use Rattle.macro_calls.specs.TableLaws.{keep-this, keep-not, one_kept}

-- a table by the numbers of a row
tab-row : {X : Type 0} (g : ℕ → X) (xs : List ℕ) → tab (length xs) (λ k. g (get_or xs k 0)) ≡ map g xs
unfolding tab
tab-row g [] = refl
tab-row g (x ∷ xs) = ap (λ l. g x ∷ l) (tab-row g xs)

drop-here : (xs : List ℕ) (k : ℕ) → k < length xs → drop k xs ≡ get_or xs k 0 ∷ drop (suc k) xs
drop-here [] k h = absurd (omega arith)
drop-here (x ∷ xs) zero h = refl
drop-here (x ∷ xs) (suc k) h = drop-here xs k (omega arith)

-- the elements of a row that pass, by the place of the first
module _ (p : ℕ → Bool) where
  keep-ahead : (xs : List ℕ) → keep p xs ≡ keep p (drop (ahead p xs) xs)
  keep-ahead [] = refl
  keep-ahead (x ∷ xs) = go (p x) refl (keep-ahead xs)
    where
      go : (b : Bool) → p x ≡ b → keep p xs ≡ keep p (drop (ahead p xs) xs) → keep p (x ∷ xs) ≡ keep p (drop (elim b [ true ↦ 0 | false ↦ suc (ahead p xs) ]) (x ∷ xs))
      go true e h = refl
      go false e h = keep-not p x xs e ∙ h

  pub found-none : (xs : List ℕ) → position p xs ≡ None → keep p xs ≡ []
  found-none xs e =
      let z : ahead p xs ≡ length xs = sym (position_or_length p xs) ∙ ap (λ r. unwrap_or r (length xs)) e in
      keep-ahead xs ∙ ap (λ (k : ℕ). keep p (drop k xs)) z ∙ ap (keep p) (drop-length xs)

  pub found-some : (xs : List ℕ) (k : ℕ) → position p xs ≡ Some k → (k < length xs) × (keep p xs ≡ get_or xs k 0 ∷ keep p (drop (k + 1) xs))
  found-some xs k e =
      let here = position-Some p xs k 0 e in
      let z : ahead p xs ≡ k = sym (position_or_length p xs) ∙ ap (λ r. unwrap_or r (length xs)) e in
      let next : drop k xs ≡ get_or xs k 0 ∷ drop (k + 1) xs = rw add-one (drop-here xs k here.0) in
      (here.0, keep-ahead xs ∙ ap (λ (j : ℕ). keep p (drop j xs)) z ∙ ap (keep p) next ∙ keep-this p (get_or xs k 0) (drop (k + 1) xs) here.1)

module _ (s c firsts w : List ℕ) where
  abbrev pub passes : ℕ → Bool
  passes q = bytes_equal w (bytes_at s c q)

  kept-row : (xs : List ℕ) → called_by (map (macro_in s c) xs) w ≡ map (macro_in s c) (keep passes xs)
  unfolding macro_in
  kept-row [] = refl
  kept-row (x ∷ xs) = go (passes x) (kept-row xs)
    where
      go : (b : Bool) → called_by (map (macro_in s c) xs) w ≡ map (macro_in s c) (keep passes xs)
          → cond b (macro_in s c x ∷ called_by (map (macro_in s c) xs) w) (called_by (map (macro_in s c) xs) w) ≡ map (macro_in s c) (cond b (x ∷ keep passes xs) (keep passes xs))
      go true h = ap (λ l. macro_in s c x ∷ l) h
      go false h = h

  named : called_by (macros_in s c firsts (length firsts)) w ≡ map (macro_in s c) (keep passes firsts)
  unfolding macros_in
  named = ap (λ ms. called_by ms w) (tab-row (macro_in s c) firsts) ∙ kept-row firsts

  pub finds-none : position passes firsts ≡ None → Finds s c firsts (length firsts) w None
  finds-none e = record { once_is = rw (named, found-none passes firsts e) refl; only = tt }

  module _ {k : ℕ} (e : position passes firsts ≡ Some k) where
    here : (k < length firsts) × (keep passes firsts ≡ get_or firsts k 0 ∷ keep passes (drop (k + 1) firsts))
    here = found-some passes firsts k e

    pub finds-more : {others : List ℕ} → others ≡ drop (k + 1) firsts → {j : ℕ} → position passes others ≡ Some j → Finds s c firsts (length firsts) w None
    finds-more {others} o {j} g =
        let f : position passes (drop (k + 1) firsts) ≡ Some j = rw o at g in
        let two : called_by (macros_in s c firsts (length firsts)) w ≡ map (macro_in s c) (get_or firsts k 0 ∷ (get_or (drop (k + 1) firsts) j 0 ∷ keep passes (drop (j + 1) (drop (k + 1) firsts)))) =
        named ∙ ap (map (macro_in s c)) (here.1 ∙ ap (λ l. get_or firsts k 0 ∷ l) (found-some passes (drop (k + 1) firsts) j f).1) in
        record { once_is = sym (ne_eqb (length (called_by (macros_in s c firsts (length firsts)) w)) 1 (λ z. omega (arith, z, ap length two))); only = tt }

    pub finds-one : {others : List ℕ} → others ≡ drop (k + 1) firsts → position passes others ≡ None → Finds s c firsts (length firsts) w (Some k)
    finds-one {others} o g =
        let f : position passes (drop (k + 1) firsts) ≡ None = rw o at g in
        let one : called_by (macros_in s c firsts (length firsts)) w ≡ macro_in s c (get_or firsts k 0) ∷ [] =
        named ∙ ap (map (macro_in s c)) (here.1 ∙ ap (λ l. get_or firsts k 0 ∷ l) (found-none passes (drop (k + 1) firsts) f)) in
        record { once_is = rw one refl; only = record { listed = here.0; only = one } }

    -- as the code asks
    pub finds-alone : {others : List ℕ} → others ≡ drop (k + 1) firsts → (r : Option ℕ) → r ≡ position passes others → (b : Bool) → is_some r ≡ not b → {x : Option ℕ} → x ≡ then_some b k
        → Finds s c firsts (length firsts) w x
    finds-alone {others} o r p b h {x} v = rw v (go r b p h)
      where
        go : (y : Option ℕ) (a : Bool) → y ≡ position passes others → is_some y ≡ not a → Finds s c firsts (length firsts) w (then_some a k)
        go None true z u = finds-one o (sym z)
        go None false z u = absurd (false≢true u)
        go (Some j) true z u = absurd (true≢false u)
        go (Some j) false z u = finds-more o (sym z)

  -- of a name that one macro alone has, that macro is the only one
  pub hinted : {singles : List Bool} → Singles s c firsts (length firsts) singles → (k : ℕ) → k < length firsts → get_or singles k false ≡ true
      → {q : ℕ} → q ≡ get_or firsts k 0 → {r : Bool} → r ≡ bytes_equal w (bytes_at s c q) → r ≡ true → Finds s c firsts (length firsts) w (Some k)
  unfolding macros_in macro_in
  hinted h k l a {q} e {r} f t =
      let u : bytes_equal w (bytes_at s c (get_or firsts k 0)) ≡ true = sym (f ∙ ap (λ (i : ℕ). bytes_equal w (bytes_at s c i)) e) ∙ t in
      let name : w ≡ bytes_at s c (get_or firsts k 0) = same_bytes-eq w (bytes_at s c (get_or firsts k 0)) (subst T (sym u) tt) in
      let one : eqb (length (called_by (macros_in s c firsts (length firsts)) w)) 1 ≡ true =
      ap (λ x. eqb (length (called_by (macros_in s c firsts (length firsts)) x)) 1) name ∙ sym (h.single_is k l) ∙ a in
      record {
        once_is = sym one;
        only = record {
          listed = l;
          only = one_kept (λ m. bytes_equal w m.name) (length firsts) (λ j. macro_in s c (get_or firsts j 0)) k l u (eqb-true (length (called_by (macros_in s c firsts (length firsts)) w)) 1 one);
        };
      }
