-- Rows without faults and what then holds of each element; searches that succeed; and what a yes to all questions says.
use Rattle.std.specs.Prelude.{◌≡◌, refl, Bool, true, false, cond, not, ◌||◌, List, [], ◌∷◌, ◌++◌, map, ℕ, suc, ◌≤◌, T, length, get_or, drop}
use Rattle.std.proofs.Common.{ap, sym, subst, arith, length-drop}
use Rattle.lists.specs.BoolLaws.{T-first, T-second}
use Rattle.layout.specs.Below.Lists.{all, any, ahead, keep, each}
use Rattle.layout.specs.Below.ListLaws.{T-both}
use Rattle.layout.specs.Bounds.{Each}
use Rattle.layout.proofs.CellLaws.{each_left, each_right}
use Rattle.macros.specs.Below.SyntaxVerdict.{Question, Verdict, decide, first_no}
pub use Rattle.layout.specs.EachLaws.{each_map, each_keep}

-- Tests

pub or-not : (a b : Bool) → T (a || b) → T (not a) → T b
or-not true b h k = absurd k
or-not false b h k = h

-- No element is left

pub append-none : {X : Type 0} (xs ys : List X) → xs ++ ys ≡ [] → (xs ≡ []) × (ys ≡ [])
append-none [] ys h = (refl, h)
append-none (x ∷ xs) ys h = absurd (let z : ◌≡◌ {A = ℕ} 0 1 = cc in omega arith)

pub map-none : {X Y : Type 0} (f : X → Y) (xs : List X) → map f xs ≡ [] → xs ≡ []
map-none f [] h = refl
map-none f (x ∷ xs) h = absurd (let z : ◌≡◌ {A = ℕ} 0 1 = cc in omega arith)

pub drop-none : {X : Type 0} (n : ℕ) (xs : List X) → drop n xs ≡ [] → length xs ≤ n
drop-none n xs h = omega (arith, length-drop n xs, ap length h)

pub cond-none : {X : Type 0} (b : Bool) (x : X) (xs : List X) → cond b [] (x ∷ xs) ≡ [] → T b
cond-none true x xs h = tt
cond-none false x xs h = absurd (let z : ◌≡◌ {A = ℕ} 0 1 = cc in omega arith)

module _ {X : Type 0} where
  pub keep-none : (q : X → Bool) (xs : List X) → keep q xs ≡ [] → Each (λ x. T (not (q x))) xs
  keep-none q [] h = tt
  keep-none q (x ∷ xs) h = go (q x) h (keep-none q xs)
    where
      go : (b : Bool) → cond b (x ∷ keep q xs) (keep q xs) ≡ [] → (keep q xs ≡ [] → Each (λ x. T (not (q x))) xs) → T (not b) × Each (λ x. T (not (q x))) xs
      go true h k = absurd (let z : ◌≡◌ {A = ℕ} 0 1 = cc in omega arith)
      go false h k = (tt, k h)

  pub each_none : {Y : Type 0} (f : X → List Y) (xs : List X) → each f xs ≡ [] → Each (λ x. f x ≡ []) xs
  each_none f [] h = tt
  each_none f (x ∷ xs) h = let p = append-none (f x) (each f xs) h in (p.0, each_none f xs p.1)

  -- Each element

  pub each_both : (P Q : X → Type 0) (xs : List X) → Each P xs → Each Q xs → Each (λ x. P x × Q x) xs
  each_both P Q [] h k = tt
  each_both P Q (x ∷ xs) h k = ((h.0, k.0), each_both P Q xs h.1 k.1)

  pub each_all : (q : X → Bool) (xs : List X) → Each (λ x. T (q x)) xs → T (all q xs)
  each_all q [] h = tt
  each_all q (x ∷ xs) h = T-both (q x) (all q xs) h.0 (each_all q xs h.1)

  pub each-kept : (q : X → Bool) (xs : List X) → Each (λ x. T (q x)) (keep q xs)
  each-kept q [] = tt
  each-kept q (x ∷ xs) = go (q x) refl (each-kept q xs)
    where
      go : (b : Bool) → q x ≡ b → Each (λ x. T (q x)) (keep q xs) → Each (λ x. T (q x)) (cond b (x ∷ keep q xs) (keep q xs))
      go true e k = (rw e tt, k)
      go false e k = k

  pub each-unkeep : (P : X → Type 0) (q : X → Bool) (xs : List X) → Each P (keep q xs) → Each (λ x. T (q x) → P x) xs
  each-unkeep P q [] h = tt
  each-unkeep P q (x ∷ xs) h = go (q x) h (each-unkeep P q xs)
    where
      go : (b : Bool) → Each P (cond b (x ∷ keep q xs) (keep q xs)) → (Each P (keep q xs) → Each (λ x. T (q x) → P x) xs) → (T b → P x) × Each (λ x. T (q x) → P x) xs
      go true h k = ((λ t. h.0), k h.1)
      go false h k = ((λ t. absurd t), k h)

  pub each-mapped : {Y : Type 0} (P : Y → Type 0) (f : X → Y) (xs : List X) → Each (λ x. P (f x)) xs → Each P (map f xs)
  each-mapped P f [] h = tt
  each-mapped P f (x ∷ xs) h = (h.0, each-mapped P f xs h.1)

  pub each-unmapped : {Y : Type 0} (P : Y → Type 0) (f : X → Y) (xs : List X) → Each P (map f xs) → Each (λ x. P (f x)) xs
  each-unmapped P f [] h = tt
  each-unmapped P f (x ∷ xs) h = (h.0, each-unmapped P f xs h.1)

  pub each-every : (P : X → Type 0) → ((x : X) → P x) → (xs : List X) → Each P xs
  each-every P f [] = tt
  each-every P f (x ∷ xs) = (f x, each-every P f xs)

  pub each-each : {Y : Type 0} (P : Y → Type 0) (f : X → List Y) (xs : List X) → Each P (each f xs) → Each (λ x. Each P (f x)) xs
  each-each P f [] h = tt
  each-each P f (x ∷ xs) h = (each_left P (f x) (each f xs) h, each-each P f xs (each_right P (f x) (each f xs) h))

  -- Searches

  pub any_found : (q : X → Bool) (xs : List X) (d : X) → T (any q xs) → T (q (get_or xs (ahead q xs) d))
  any_found q [] d h = absurd h
  any_found q (x ∷ xs) d h = go (q x) refl h (any_found q xs d)
    where
      go : (b : Bool) → q x ≡ b → T (b || any q xs) → (T (any q xs) → T (q (get_or xs (ahead q xs) d)))
          → T (q (get_or (x ∷ xs) (elim b [ true ↦ 0 | false ↦ suc (ahead q xs) ]) d))
      go true e h k = subst T (sym e) tt
      go false e h k = k h

  pub any-mapped : {Y : Type 0} (q : Y → Bool) (f : X → Y) (xs : List X) → T (any q (map f xs)) → T (any (λ x. q (f x)) xs)
  any-mapped q f [] h = h
  any-mapped q f (x ∷ xs) h = go (q (f x)) h (any-mapped q f xs)
    where
      go : (b : Bool) → T (b || any q (map f xs)) → (T (any q (map f xs)) → T (any (λ x. q (f x)) xs)) → T (b || any (λ x. q (f x)) xs)
      go true h k = tt
      go false h k = k h

  -- where each that passes the one test passes the other
  pub any-more : (p q : X → Bool) (xs : List X) → Each (λ x. T (p x) → T (q x)) xs → T (any p xs) → T (any q xs)
  any-more p q [] e h = h
  any-more p q (x ∷ xs) e h = go (p x) h e.0 (any-more p q xs e.1)
    where
      go : (b : Bool) → T (b || any p xs) → (T b → T (q x)) → (T (any p xs) → T (any q xs)) → T (q x || any q xs)
      go true h f k = T-first (q x) (any q xs) (f tt)
      go false h f k = T-second (q x) (any q xs) (k h)

  pub any-unkeep : (p q : X → Bool) (xs : List X) → T (any p (keep q xs)) → T (any p xs)
  any-unkeep p q [] h = h
  any-unkeep p q (x ∷ xs) h = go (q x) h (any-unkeep p q xs)
    where
      go : (b : Bool) → T (any p (cond b (x ∷ keep q xs) (keep q xs))) → (T (any p (keep q xs)) → T (any p xs)) → T (p x || any p xs)
      go true h k = more (p x) h
        where
          more : (c : Bool) → T (c || any p (keep q xs)) → T (c || any p xs)
          more true h = tt
          more false h = k h
      go false h k = T-second (p x) (any p xs) (k h)

-- Every question is answered yes
abbrev pub Answered : List Question → Type 0
Answered qs = Each (λ q. q.faults ≡ []) qs

decided : (number : ℕ) (ps : List ℕ) (v : Verdict) → decide number ps v ≡ Verdict.yes → (ps ≡ []) × (v ≡ Verdict.yes)
unfolding decide
decided number [] v h = (refl, h)
decided number (p ∷ ps) v h = absurd (let z : ◌≡◌ {A = ℕ} 0 1 = cc in omega arith)

pub answered : (qs : List Question) → first_no qs ≡ Verdict.yes → Answered qs
unfolding first_no
answered [] h = tt
answered (q ∷ qs) h = let k = decided q.number q.faults (first_no qs) h in (k.0, answered qs k.1)
