-- Laws of numbers in cells and of lists by their index.
use Rattle.std.specs.Prelude.{◌≡◌, Bool, true, false, ◌||◌, T, get_or, take, drop, ℤ, pos, negsuc, nat_abs}
use Rattle.std.proofs.Math.Path.{refl, sym, ap}
use Rattle.std.proofs.Common.{◌∙◌, subst, not-suc-le-zero, le_of_suc-le-suc, arith, length-append, drop-drop, get_or-drop, get_or-append-add, le-leb}
use mathlib.Core.List.{List, [], ◌∷◌, ◌++◌, map, append_assoc}
use Prim.Native.Nat.{ℕ, zero, suc, ◌+◌, ◌*◌, ◌-◌, ◌/◌, ◌%◌, ◌≤◌, ◌<◌}
use Rattle.std.proofs.Math.ListN.{length, replicate, get_or-append}
use Rattle.std.proofs.lemmas.List.{length-replicate}
use Rattle.std.proofs.Math.Seq.{drop-append-add, get_or-append_seam}
use Rattle.std.proofs.lemmas.Bool.{lt-leb}
use Rattle.machine.specs.Below.ListLaws.{all_head, all_tail}
use Rattle.machine.specs.Below.Lists.{total, all, any, ahead, each}
use Rattle.layout.specs.Bounds.{Each, Below}
use Rattle.layout.specs.Cells.{cell, two, two_at, three, four, fours, unfours, code, uncode, tab, padded}

-- ---- every element

-- what all pass, each has
pub each_of : {X : Type 0} (q : X → Bool) (P : X → Type 0) → ((x : X) → T (q x) → P x) → (xs : List X) → T (all q xs) → Each P xs
each_of q P f [] h = tt
each_of q P f (x ∷ xs) h = (f x (all_head q x xs h), each_of q P f xs (all_tail q x xs h))

-- where a sum is 0, so is each of its parts
pub each-zero : {X : Type 0} (f : X → ℕ) (P : X → Type 0) → ((x : X) → f x ≡ 0 → P x) → (xs : List X) → total f xs ≡ 0 → Each P xs
each-zero f P g [] h = tt
each-zero f P g (x ∷ xs) h = (g x (omega (arith, h)), each-zero f P g xs (omega (arith, h)))

module _ {X : Type 0} (P : X → Type 0) where
  pub each_append : (xs ys : List X) → Each P xs → Each P ys → Each P (xs ++ ys)
  each_append [] ys h k = k
  each_append (x ∷ xs) ys h k = (h.0, each_append xs ys h.1 k)

  pub each_left : (xs ys : List X) → Each P (xs ++ ys) → Each P xs
  each_left [] ys h = tt
  each_left (x ∷ xs) ys h = (h.0, each_left xs ys h.1)

  pub each_right : (xs ys : List X) → Each P (xs ++ ys) → Each P ys
  each_right [] ys h = h
  each_right (x ∷ xs) ys h = each_right xs ys h.1

  pub each_at : (d : X) → P d → (xs : List X) → Each P xs → (i : ℕ) → P (get_or xs i d)
  each_at d z [] h i = z
  each_at d z (x ∷ xs) h zero = h.0
  each_at d z (x ∷ xs) h (suc i) = each_at d z xs h.1 i

  pub each_in : (xs : List X) → Each P xs → (i : ℕ) (d : X) → i < length xs → P (get_or xs i d)
  each_in [] h i d b = absurd (not-suc-le-zero b)
  each_in (x ∷ xs) h zero d b = h.0
  each_in (x ∷ xs) h (suc i) d b = each_in xs h.1 i d (le_of_suc-le-suc b)

  pub each-drop : (n : ℕ) (xs : List X) → Each P xs → Each P (drop n xs)
  each-drop zero xs h = h
  each-drop (suc n) [] h = tt
  each-drop (suc n) (x ∷ xs) h = each-drop n xs h.1

  pub each-replicate : (n : ℕ) (x : X) → P x → Each P (replicate n x)
  each-replicate zero x h = tt
  each-replicate (suc n) x h = (h, each-replicate n x h)

pub below-append : (n : ℕ) (l m : List ℕ) → Below n l → Below n m → Below n (l ++ m)
below-append n l m h k = each_append (λ x. x < n) l m h k

pub below-zeros : (n k : ℕ) → 0 < n → Below n (replicate k 0)
below-zeros n k h = each-replicate (λ x. x < n) k 0 h

module _ {X : Type 0} (n : ℕ) where
  pub each_below : (f : X → List ℕ) (P : X → Type 0) → ((x : X) → P x → Below n (f x)) → (xs : List X) → Each P xs → Below n (each f xs)
  each_below f P g [] h = tt
  each_below f P g (x ∷ xs) h = below-append n (f x) (each f xs) (g x h.0) (each_below f P g xs h.1)

  pub map_below : (f : X → ℕ) (P : X → Type 0) → ((x : X) → P x → f x < n) → (xs : List X) → Each P xs → Below n (map f xs)
  map_below f P g [] h = tt
  map_below f P g (x ∷ xs) h = (g x h.0, map_below f P g xs h.1)

-- blocks of k cells each
pub length-each : {X Y : Type 0} (k : ℕ) (f : X → List Y) → ((x : X) → length (f x) ≡ k) → (xs : List X) → length (each f xs) ≡ k * length xs
length-each k f h [] = omega arith
length-each k f h (x ∷ xs) = simp length-append (omega (arith, h x, length-each k f h xs))

-- ---- two and three cells

pub twice : (k : ℕ) → 2 * suc k ≡ suc (suc (2 * k))
twice k = omega arith

pub twice-one : (k : ℕ) → 2 * suc k + 1 ≡ suc (suc (2 * k + 1))
twice-one k = omega arith

pub two_back : (n : ℕ) → n % 256 + 256 * (n / 256) ≡ n
two_back n = omega arith

pub three_back : (n : ℕ) → n % 256 + 256 * (n / 256 % 256) + 65536 * (n / 65536) ≡ n
three_back n = omega arith

-- the two cells at a list's end
pub two-at_end : (l : List ℕ) (n : ℕ) → two_at (length l) (l ++ two n) ≡ n
two-at_end l n =
    let low : cell (l ++ two n) (length l) ≡ n % 256 = get_or-append_seam l (n % 256) (n / 256 ∷ []) 0 in
    let at : 1 + length l ≡ length l + 1 = omega arith in
    let high : cell (l ++ two n) (1 + length l) ≡ n / 256 = rw at (get_or-append-add l (two n) 1 0) in
    rw (low, high) (two_back n)

pub two-below : (n : ℕ) → n < 65536 → Below 256 (two n)
two-below n h = omega arith

pub three-below : (n : ℕ) → n < 16777216 → Below 256 (three n)
three-below n h = omega arith

-- ---- numbers

pub code_below : (z : ℤ) → nat_abs z ≤ 8388607 → code z < 16777216
unfolding code
code_below (pos n) h = omega arith
code_below (negsuc n) h = omega arith

pub uncode-code : (z : ℤ) → nat_abs z ≤ 8388607 → uncode (code z) ≡ z
unfolding code uncode
uncode-code (pos n) h = rw (le-leb 8388607 (8388607 + n) (omega arith)) (ap pos (omega arith))
uncode-code (negsuc n) h = rw (lt-leb 8388607 (8388606 - n) (omega arith)) (ap negsuc (omega arith))

-- ---- four bytes in a cell

pub length-fours : (n : ℕ) (l : List ℕ) → length (fours n l) ≡ n
unfolding fours
length-fours zero l = refl
length-fours (suc n) l = ap suc (length-fours n (drop 4 l))

pub four_below : (l : List ℕ) → Below 256 l → four l < 4294967296
four_below l h =
    let at : (k : ℕ) → cell l k < 256 = each_at (λ x. x < 256) 0 (omega arith) l h in
    omega (arith, at 0, at 1, at 2, at 3)

pub fours-below : (n : ℕ) (l : List ℕ) → Below 256 l → Below 4294967296 (fours n l)
unfolding fours
fours-below zero l h = tt
fours-below (suc n) l h = (four_below l h, fours-below n (drop 4 l) (each-drop (λ x. x < 256) 4 l h))

module _ (a b c d : ℕ) (h : Below 256 (a ∷ b ∷ c ∷ d ∷ [])) where
  abbrev cell_of : ℕ
  cell_of = a + 256 * b + 65536 * c + 16777216 * d

  byte-0 : cell_of % 256 ≡ a
  byte-0 = omega (arith, h)

  byte-1 : cell_of / 256 % 256 ≡ b
  byte-1 = omega (arith, h)

  byte-2 : cell_of / 65536 % 256 ≡ c
  byte-2 = omega (arith, h)

  byte-3 : cell_of / 16777216 ≡ d
  byte-3 = omega (arith, h)

-- what is written is read back
pub take-unfours : (n : ℕ) (l : List ℕ) → length l ≤ 4 * n → Below 256 l → take (length l) (unfours (fours n l)) ≡ l
unfolding fours unfours
take-unfours zero [] h k = refl
take-unfours zero (a ∷ l) h k = absurd (omega (arith, h))
take-unfours (suc n) [] h k = refl
take-unfours (suc n) (a ∷ []) h k = rw (byte-0 a 0 0 0 (omega (arith, k)))
take-unfours (suc n) (a ∷ b ∷ []) h k = let k₁ : Below 256 (a ∷ b ∷ 0 ∷ 0 ∷ []) = omega (arith, k) in rw (byte-0 a b 0 0 k₁, byte-1 a b 0 0 k₁)
take-unfours (suc n) (a ∷ b ∷ c ∷ []) h k =
    let k₁ : Below 256 (a ∷ b ∷ c ∷ 0 ∷ []) = omega (arith, k) in
    rw (byte-0 a b c 0 k₁, byte-1 a b c 0 k₁, byte-2 a b c 0 k₁)
take-unfours (suc n) (a ∷ b ∷ c ∷ d ∷ l) h k =
    let k₁ : Below 256 (a ∷ b ∷ c ∷ d ∷ []) = omega (arith, k.0, k.1.0, k.1.1.0, k.1.1.1.0) in
    rw (byte-0 a b c d k₁, byte-1 a b c d k₁, byte-2 a b c d k₁, byte-3 a b c d k₁, take-unfours n l (omega (arith, h)) k.1.1.1.1)

-- ---- lists by their index

module _ {X : Type 0} where
  pub length-tab : (n : ℕ) (f : ℕ → X) → length (tab n f) ≡ n
  unfolding tab
  length-tab zero f = refl
  length-tab (suc n) f = ap suc (length-tab n (λ i. f (suc i)))

  pub get_d-tab : (n : ℕ) (f : ℕ → X) (i : ℕ) (d : X) → i < n → get_or (tab n f) i d ≡ f i
  unfolding tab
  get_d-tab zero f i d h = absurd (not-suc-le-zero h)
  get_d-tab (suc n) f zero d h = refl
  get_d-tab (suc n) f (suc i) d h = get_d-tab n (λ i. f (suc i)) i d (le_of_suc-le-suc h)

  pub tab-ext : (d : X) (xs : List X) (f : ℕ → X) → ((i : ℕ) → i < length xs → f i ≡ get_or xs i d) → tab (length xs) f ≡ xs
  unfolding tab
  tab-ext d [] f h = refl
  tab-ext d (x ∷ xs) f h =
      let e : f zero ≡ x = h zero (omega arith) in
      let t = tab-ext d xs (λ i. f (suc i)) (λ i k. h (suc i) (omega arith)) in
      λ j. e j ∷ t j

  -- the first element that passes a test, where one does
  pub found : (q : X → Bool) (d : X) (xs : List X) → T (any q xs) → T (q (get_or xs (ahead q xs) d)) × (ahead q xs < length xs)
  found q d [] h = absurd h
  found q d (x ∷ xs) h = go (q x) refl h (found q d xs)
    where
      go : (b : Bool) → q x ≡ b → T (b || any q xs) → (T (any q xs) → T (q (get_or xs (ahead q xs) d)) × (ahead q xs < length xs))
          → let n : ℕ = elim b [ true ↦ 0 | false ↦ suc (ahead q xs) ] in T (q (get_or (x ∷ xs) n d)) × (n < suc (length xs))
      go true e t r = (subst T (sym e) tt, omega arith)
      go false e t r = ((r t).0, omega (arith, (r t).1))

-- ---- blocks in a table

pub length-padded : (n : ℕ) (l : List ℕ) → length l ≤ n → length (padded n l) ≡ n
unfolding padded
length-padded n l h = simp (length-append, length-replicate) (omega arith)

pub padded-below : (m n : ℕ) (l : List ℕ) → 0 < m → Below m l → Below m (padded n l)
unfolding padded
padded-below m n l h k = below-append m l (replicate (n - length l) 0) k (below-zeros m (n - length l) h)

module _ {X : Type 0} (k : ℕ) (f : X → List ℕ) (long : (x : X) → length (f x) ≡ k) where
  pub drop-each : (d : X) (xs : List X) (t : List ℕ) (i : ℕ) → i < length xs → drop (k * i) (each f xs ++ t) ≡ f (get_or xs i d) ++ (each f (drop (suc i) xs) ++ t)
  drop-each d [] t i h = absurd (not-suc-le-zero h)
  drop-each d (x ∷ xs) t zero h = let z : k * 0 ≡ 0 = omega arith in rw (z, append_assoc)
  drop-each d (x ∷ xs) t (suc i) h =
      let z : k * suc i ≡ length (f x) + k * i = omega (arith, long x) in
      rw (z, append_assoc, drop-append-add (f x) (each f xs ++ t) (k * i)) (drop-each d xs t i (le_of_suc-le-suc h))

  -- block i of a padded list of blocks at place n of c, and what stands behind it
  pub block_at : (c post : List ℕ) (n m : ℕ) (d : X) (xs : List X) (i : ℕ) → drop n c ≡ padded m (each f xs) ++ post → i < length xs
      → (t : List ℕ) × (drop (n + k * i) c ≡ f (get_or xs i d) ++ t)
  unfolding padded
  block_at c post n m d xs i e h =
      let z : List ℕ = replicate (m - length (each f xs)) 0 ++ post in
      (each f (drop (suc i) xs) ++ z, sym (drop-drop (k * i) n c) ∙ rw (e, append_assoc) (drop-each d xs z i h))

-- cells of a block at place k of c
module _ (c b t : List ℕ) (k : ℕ) (e : drop k c ≡ b ++ t) where
  pub cell_at : (j : ℕ) → j < length b → cell c (k + j) ≡ cell b j
  cell_at j h = sym (get_or-drop k c j 0) ∙ rw e (get_or-append b t 0 j h)

  pub first_cell : 0 < length b → cell c k ≡ cell b 0
  first_cell h = let z : k + 0 ≡ k = omega arith in rw z at (cell_at 0 h)

  pub next_cell : (j : ℕ) → j < length b → cell c (j + k) ≡ cell b j
  next_cell j h = let z : k + j ≡ j + k = omega arith in rw z at (cell_at j h)

pub padded-at : (c l post : List ℕ) (k m : ℕ) → drop k c ≡ padded m l ++ post → (j : ℕ) → j < length l → cell c (k + j) ≡ cell l j
unfolding padded
padded-at c l post k m e j h = cell_at c l (replicate (m - length l) 0 ++ post) k (e ∙ append_assoc l (replicate (m - length l) 0) post) j h

-- element k of what f makes of element i
module _ {X Y : Type 0} (f : X → List Y) (z : X) (d : Y) where
  pub get_d-each : (xs : List X) (i k : ℕ) → i < length xs → k < length (f (get_or xs i z))
      → get_or (each f xs) (total (λ x. length (f x)) (take i xs) + k) d ≡ get_or (f (get_or xs i z)) k d
  get_d-each [] i k h b = absurd (not-suc-le-zero h)
  get_d-each (x ∷ xs) zero k h b = let e : 0 + k ≡ k = omega arith in rw e (get_or-append (f x) (each f xs) d k b)
  get_d-each (x ∷ xs) (suc i) k h b =
      let n : ℕ = total (λ x. length (f x)) (take i xs) in
      let e : length (f x) + n + k ≡ length (f x) + (n + k) = omega arith in
      rw (e, get_or-append-add (f x) (each f xs) (n + k) d) (get_d-each xs i k (le_of_suc-le-suc h) b)

  pub each_within : (xs : List X) (i k : ℕ) → i < length xs → k < length (f (get_or xs i z)) → total (λ x. length (f x)) (take i xs) + k < length (each f xs)
  each_within [] i k h b = absurd (not-suc-le-zero h)
  each_within (x ∷ xs) zero k h b = simp length-append (omega arith)
  each_within (x ∷ xs) (suc i) k h b = simp length-append (omega (arith, each_within xs i k (le_of_suc-le-suc h) b))

-- what f makes of element i is no longer than what it makes of all
pub each-most : {X Y : Type 0} (f : X → List Y) (z : X) (xs : List X) (i : ℕ) → i < length xs → length (f (get_or xs i z)) ≤ length (each f xs)
each-most f z [] i h = absurd (not-suc-le-zero h)
each-most f z (x ∷ xs) zero h = simp length-append (omega arith)
each-most f z (x ∷ xs) (suc i) h = simp length-append (omega (arith, each-most f z xs i (le_of_suc-le-suc h)))
