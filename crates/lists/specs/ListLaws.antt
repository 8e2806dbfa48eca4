-- Laws of the tests and the sums of Lists.antt. `total-set` is the one fact over the index: every limit and every invariant rests on it.
use Rattle.std.specs.Prelude.{◌≡◌, refl, Bool, true, false, cond, ◌&&◌, ◌||◌, ℕ, zero, suc, ◌+◌, ◌≤◌, ◌<◌, T, leb, eqb, length, get_or, take, drop, set}
use Rattle.std.proofs.Common.{ap, sym, ◌∙◌, subst, zero-add, not-suc-le-zero, le_of_suc-le-suc, arith, leb→le, eqb→eq, eqb-true}
use Rattle.std.proofs.Math.Bool.{and-false}
use mathlib.Core.List.{List, [], ◌∷◌, ◌++◌, map, reverse, reverse_aux}
use Rattle.std.proofs.Math.Decide.{dec_lt}
use Rattle.std.proofs.Math.Dec.{eqb_refl}
use Rattle.std.proofs.lemmas.Bool.{lt-leb}
use Rattle.std.proofs.Math.ListN.{get_or-eq_default}
use Rattle.std.proofs.Math.Seq.{set_out}
use Rattle.lists.specs.Lists.{total, all, ahead, keep, every, same_list, bytes_equal, among}

-- Tests

pub T-left : (a b : Bool) → T (a && b) → T a
T-left true b h = tt
T-left false b h = h

pub T-right : (a b : Bool) → T (a && b) → T b
T-right true b h = h
T-right false b h = absurd h

pub T-both : (a b : Bool) → T a → T b → T (a && b)
T-both true b x y = y
T-both false b x y = x

-- a list of tests passes where each of its parts does
pub part : (bs : List Bool) → T (every bs) → (i : ℕ) → T (get_or bs i true)
part [] h i = tt
part (b ∷ bs) h zero = T-left b (every bs) h
part (b ∷ bs) h (suc i) = part bs (T-right b (every bs) h) i

abbrev pub Passed : List Bool → Type 0
Passed [] = Unit {0}
Passed (b ∷ bs) = T b × Passed bs

pub parts : (bs : List Bool) → Passed bs → T (every bs)
parts [] h = tt
parts (b ∷ bs) h = T-both b (every bs) h.0 (parts bs h.1)

module _ {X : Type 0} (p : X → Bool) where
  pub all_head : (x : X) (xs : List X) → T (all p (x ∷ xs)) → T (p x)
  all_head x xs h = T-left (p x) (all p xs) h

  pub all_tail : (x : X) (xs : List X) → T (all p (x ∷ xs)) → T (all p xs)
  all_tail x xs h = T-right (p x) (all p xs) h

  pub all_cons : (x : X) (xs : List X) → T (p x) → T (all p xs) → T (all p (x ∷ xs))
  all_cons x xs h k = T-both (p x) (all p xs) h k

  pub all-at : (xs : List X) → T (all p xs) → (i : ℕ) (d : X) → i < length xs → T (p (get_or xs i d))
  all-at [] h i d l = absurd (not-suc-le-zero l)
  all-at (x ∷ xs) h zero d l = all_head x xs h
  all-at (x ∷ xs) h (suc i) d l = all-at xs (all_tail x xs h) i d (le_of_suc-le-suc l)

  pub all_keep : (q : X → Bool) (xs : List X) → T (all p xs) → T (all p (keep q xs))
  all_keep q [] h = tt
  all_keep q (x ∷ xs) h = go (q x) (all_keep q xs (all_tail x xs h))
    where
      go : (b : Bool) → T (all p (keep q xs)) → T (all p (cond b (x ∷ keep q xs) (keep q xs)))
      go true k = all_cons x (keep q xs) (all_head x xs h) k
      go false k = k

  pub ahead-le : (xs : List X) → ahead p xs ≤ length xs
  ahead-le [] = omega arith
  ahead-le (x ∷ xs) = go (p x) (ahead-le xs)
    where
      go : (b : Bool) → ahead p xs ≤ length xs → elim b [ true ↦ 0 | false ↦ suc (ahead p xs) ] ≤ suc (length xs)
      go true h = omega arith
      go false h = omega arith

-- what passes for all numbers of a list passes for one of them
pub all_among : (p : ℕ → Bool) (ns : List ℕ) → T (all p ns) → (n : ℕ) → T (among n ns) → T (p n)
all_among p [] h n m = absurd m
all_among p (x ∷ ns) h n m = go (eqb n x) refl m (all_among p ns (all_tail p x ns h) n)
  where
    go : (b : Bool) → eqb n x ≡ b → T (b || among n ns) → (T (among n ns) → T (p n)) → T (p n)
    go true e t k = let q : n ≡ x = eqb-true n x e in rw q (all_head p x ns h)
    go false e t k = k t

-- `bytes_equal` is equality
pub same_bytes-eq : (v w : List ℕ) → T (bytes_equal v w) → v ≡ w
same_bytes-eq [] [] h = refl
same_bytes-eq [] (y ∷ w) h = absurd h
same_bytes-eq (x ∷ v) [] h = absurd h
same_bytes-eq (x ∷ v) (y ∷ w) h =
    let e = eqb→eq x y (T-left (eqb x y) (same_list eqb v w) h) in
    let f = same_bytes-eq v w (T-right (eqb x y) (same_list eqb v w) h) in
    cc

pub same_bytes-refl : (w : List ℕ) → T (bytes_equal w w)
same_bytes-refl [] = tt
same_bytes-refl (x ∷ w) = T-both (eqb x x) (bytes_equal w w) (eqb_refl x) (same_bytes-refl w)

pub other_length : (v w : List ℕ) → (length v ≡ length w → ⊥) → bytes_equal v w ≡ false
other_length [] [] h = absurd (h refl)
other_length [] (y ∷ w) h = refl
other_length (x ∷ v) [] h = refl
other_length (x ∷ v) (y ∷ w) h = rw (other_length v w (λ e. h (ap suc e))) (and-false (eqb x y))

-- Sums

module _ {X : Type 0} (f : X → ℕ) where
  pub total-append : (xs ys : List X) → total f (xs ++ ys) ≡ total f xs + total f ys
  total-append [] ys = omega arith
  total-append (x ∷ xs) ys = omega (arith, total-append xs ys)

  total-reverse_aux : (xs ys : List X) → total f (reverse_aux xs ys) ≡ total f xs + total f ys
  total-reverse_aux [] ys = omega arith
  total-reverse_aux (x ∷ xs) ys = omega (arith, total-reverse_aux xs (x ∷ ys))

  pub total-reverse : (xs : List X) → total f (reverse xs) ≡ total f xs
  total-reverse xs = omega (arith, total-reverse_aux xs [])

  pub total-split : (k : ℕ) (xs : List X) → total f (take k xs) + total f (drop k xs) ≡ total f xs
  total-split zero xs = omega arith
  total-split (suc k) [] = refl
  total-split (suc k) (x ∷ xs) = omega (arith, total-split k xs)

  -- the one fact over the index: a sum after an element is replaced
  pub total-set : (d : X) (xs : List X) (i : ℕ) (y : X) → i < length xs → total f (set xs i y) + f (get_or xs i d) ≡ total f xs + f y
  total-set d [] i y h = absurd (not-suc-le-zero h)
  total-set d (x ∷ xs) zero y h = omega arith
  total-set d (x ∷ xs) (suc i) y h = omega (arith, total-set d xs i y (le_of_suc-le-suc h))

  -- of an element that counts 0 where there is none, the index may be any
  module _ (d : X) (e : f d ≡ 0) (xs : List X) (i : ℕ) where
    pub total-put : (y : X) → total f (set xs i y) + f (get_or xs i d) ≤ total f xs + f y
    total-put y = go (dec_lt i (length xs))
      where
        go : Dec (i < length xs) → total f (set xs i y) + f (get_or xs i d) ≤ total f xs + f y
        go (yes h) = omega (arith, total-set d xs i y h)
        go (no h) = omega (arith, ap (total f) (set_out xs i y (omega arith)), ap f (get_or-eq_default xs d {n = i} (omega arith)))

    pub total-at : f (get_or xs i d) ≤ total f xs
    total-at = omega (arith, total-put d)

pub total-map : {X Y : Type 0} (f : Y → ℕ) (g : X → Y) (xs : List X) → total f (map g xs) ≡ total (λ x. f (g x)) xs
total-map f g [] = refl
total-map f g (x ∷ xs) = omega (arith, total-map f g xs)

pub total_mono : {X : Type 0} (f g : X → ℕ) → ((x : X) → f x ≤ g x) → (xs : List X) → total f xs ≤ total g xs
total_mono f g h [] = omega arith
total_mono f g h (x ∷ xs) = omega (arith, h x, total_mono f g h xs)

-- two elements exchanged
module _ {X : Type 0} (d : X) where
  get_d-exchanged : (xs : List X) (i j : ℕ) → get_or (set xs i (get_or xs j d)) j d ≡ get_or xs j d
  get_d-exchanged [] i j = refl
  get_d-exchanged (x ∷ xs) zero zero = refl
  get_d-exchanged (x ∷ xs) zero (suc j) = refl
  get_d-exchanged (x ∷ xs) (suc i) zero = refl
  get_d-exchanged (x ∷ xs) (suc i) (suc j) = get_d-exchanged xs i j

  pub total-exchange : (f : X → ℕ) → f d ≡ 0 → (xs : List X) (i j : ℕ) → total f (set (set xs i (get_or xs j d)) j (get_or xs i d)) ≤ total f xs
  total-exchange f e xs i j =
      omega (arith, total-put f d e xs i (get_or xs j d), total-put f d e (set xs i (get_or xs j d)) j (get_or xs i d), ap f (get_d-exchanged xs i j))

-- a test of all elements, too, is a sum: how many fail
module _ {X : Type 0} (p : X → Bool) where
  abbrev pub failing : X → ℕ
  failing x = cond (p x) 0 1

  pub all-total : (xs : List X) → all p xs ≡ leb (total failing xs) 0
  all-total [] = refl
  all-total (x ∷ xs) = go (p x) (all-total xs)
    where
      go : (b : Bool) → all p xs ≡ leb (total failing xs) 0 → (b && all p xs) ≡ leb (cond b 0 1 + total failing xs) 0
      go true h = rw zero-add h
      go false h = sym (lt-leb (1 + total failing xs) 0 (omega arith))

  pub none-fail : (xs : List X) → T (all p xs) → total failing xs ≡ 0
  none-fail xs h = omega (arith, leb→le (total failing xs) 0 (subst T (all-total xs) h))

  -- where all pass, the element put in one's place decides
  pub all_set : (d : X) (xs : List X) (i : ℕ) (y : X) → T (all p xs) → i < length xs → all p (set xs i y) ≡ p y
  all_set d xs i y h l = all-total (set xs i y) ∙ ap (λ (n : ℕ). leb n 0) left ∙ go (p y)
    where
      passes : (b : Bool) → T b → cond {A = ℕ} b 0 1 ≡ 0
      passes true t = refl
      passes false t = absurd t

      left : total failing (set xs i y) ≡ failing y
      left = omega (arith, total-set failing d xs i y l, none-fail xs h, passes (p (get_or xs i d)) (all-at p xs h i d l))

      go : (b : Bool) → leb (cond b 0 1) 0 ≡ b
      go true = refl
      go false = refl

-- no more are kept than there are
pub keep-few : {X : Type 0} (q : X → Bool) (xs : List X) → length (keep q xs) ≤ length xs
keep-few q [] = omega arith
keep-few q (x ∷ xs) = go (q x) (keep-few q xs)
  where
    go : (b : Bool) → length (keep q xs) ≤ length xs → length (cond b (x ∷ keep q xs) (keep q xs)) ≤ suc (length xs)
    go true k = omega arith
    go false k = omega arith
