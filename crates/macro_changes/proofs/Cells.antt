-- Cells that are written behind others leave what those say.
use mathlib.Core.Path.{◌≡◌, refl, ap, ◌∙◌}
use mathlib.Core.Bool.{Bool, true, false, cond}
use mathlib.Core.List.{List, [], ◌∷◌, ◌++◌}
use Prim.Native.Nat.{ℕ, zero, suc, ◌+◌, ◌*◌, ◌/◌, ◌%◌, ◌≤◌, ◌<◌}
use native.Mathlib.Nat.{le_refl}
use native.Mathlib.Omega.{arith}
use lib.Dec.{eqb}
use lib.ListN.{length, get_or, set, take, drop, length-set}
use lib.Seq.{get_or-set_same, get_or-set_other}
use Rattle.layout.specs.Cells.{tab}
use Rattle.macros.specs.Pieces.{Call, Piece, Change}
use Rattle.macros.specs.Pieces.Given.{typed, parameter, joined}
use Rattle.macros.specs.Pieces.Piece.{value, called}
use Rattle.macro_code.specs.Code.{high, low, paired, bytes_at, given_in, is_value, is_call, argument_count, argument_cell, call_in, change_in, size_at, changes_in, behind_changes}
use Rattle.macro_code.specs.declared.Given as held
use Rattle.macro_code.specs.declared.Given.TheVariants.{Typed, Parameter, Joined}
use Rattle.macro_changes.specs.Changing.{Scope, first_in, count_in, Kept, parameters_of, given_as, kind_in, number_in}

-- the two numbers of a cell
pub first_of : (a b : ℕ) → b < 65536 → paired a b / 65536 ≡ a
first_of a b h = omega arith

pub second-of : (a b : ℕ) → b < 65536 → paired a b % 65536 ≡ b
second-of a b h = omega arith

-- lists by their index
module _ {X : Type 0} where
  pub tab-cong : (n : ℕ) (f g : ℕ → X) → ((j : ℕ) → j < n → f j ≡ g j) → tab n f ≡ tab n g
  unfolding tab
  tab-cong zero f g h = refl
  tab-cong (suc n) f g h =
      let a = h zero (omega arith) in
      let b = tab-cong n (λ i. f (suc i)) (λ i. g (suc i)) (λ j l. h (suc j) (omega arith)) in
      λ i. a i ∷ b i

  tab-more : (n : ℕ) (f : ℕ → X) → tab (suc n) f ≡ tab n f ++ (f n ∷ [])
  unfolding tab
  tab-more zero f = refl
  tab-more (suc n) f = ap (λ (xs : List X). f zero ∷ xs) (tab-more n (λ i. f (suc i)))

  pub tab-last : (n : ℕ) (f : ℕ → X) → tab (n + 1) f ≡ tab n f ++ (f n ∷ [])
  tab-last n f = let e : n + 1 ≡ suc n = omega arith in ap (λ (k : ℕ). tab k f) e ∙ tab-more n f

pub kept-none : (c : List ℕ) (u : ℕ) → Kept c c u
kept-none c u = record { size = refl; same = λ k h. refl }

pub kept_set : (c : List ℕ) (i v u : ℕ) → u ≤ i → Kept c (set c i v) u
kept_set c i v u h = record { size = length-set c i v; same = λ k l. get_or-set_other c i k v 0 (λ e. omega arith) }

pub kept_on : {c d e : List ℕ} {u v : ℕ} → Kept c d u → Kept d e v → u ≤ v → Kept c e u
kept_on f g h = record { size = g.size ∙ f.size; same = λ k l. g.same k (omega arith) ∙ f.same k l }

pub kept-below : {c d : List ℕ} {u v : ℕ} → Kept c d u → v ≤ u → Kept c d v
kept-below f h = record { size = f.size; same = λ k l. f.same k (omega arith) }

size-least : (c : List ℕ) (i : ℕ) → 2 ≤ size_at c i
unfolding size_at
size-least c i = go (is_call c i)
  where
    go : (b : Bool) → 2 ≤ cond b (argument_cell 0 (argument_count c i)) 2
    go true = omega arith
    go false = omega arith

-- two rows of cells agree between two cells
pub record Agree (c d : List ℕ) (lo hi : ℕ) : Type 0 where
  pub same : (k : ℕ) → lo ≤ k → k < hi → get_or d k 0 ≡ get_or c k 0

pub kept-agree : {c d : List ℕ} {u : ℕ} → Kept c d u → Agree c d 0 u
kept-agree k = record { same = λ i l h. k.same i h }

module _ {c d : List ℕ} {lo hi : ℕ} (k : Agree c d lo hi) where
  pub bytes-agree : (s : List ℕ) (i : ℕ) → lo ≤ i → i < hi → bytes_at s d i ≡ bytes_at s c i
  unfolding bytes_at
  bytes-agree s i l h = rw (k.same i l h) refl

  pub given-agree : (s : List ℕ) (i : ℕ) → lo ≤ i → i + 1 < hi → given_in s d i ≡ given_in s c i
  unfolding given_in bytes_at
  given-agree s i l h = let a = k.same i l (omega arith) in let b = k.same (i + 1) (omega arith) h in rw (a, b) refl

  pub parameters-agree : (s : List ℕ) (x : Scope) → lo ≤ (first_in x) → (first_in x) + (count_in x) ≤ hi → parameters_of s d x ≡ parameters_of s c x
  parameters-agree s x l h =
      tab-cong (count_in x) (λ j. bytes_at s d ((first_in x) + j)) (λ j. bytes_at s c ((first_in x) + j)) (λ j m. bytes-agree s ((first_in x) + j) (omega arith) (omega arith))

  kind-agree : (i : ℕ) → lo ≤ i → i + 1 < hi → get_or d (i + 1) 0 ≡ get_or c (i + 1) 0
  kind-agree i l h = k.same (i + 1) (omega arith) h

  size-agree : (i : ℕ) → lo ≤ i → i + 1 < hi → size_at d i ≡ size_at c i
  unfolding size_at
  size-agree i l h = rw (kind-agree i l h) refl

  call-agree : (s : List ℕ) (i : ℕ) → lo ≤ i → i + 4 + 2 * argument_count c i ≤ hi → call_in s d i ≡ call_in s c i
  unfolding call_in
  call-agree s i l h =
      let n = argument_count c i in
      let e : get_or d (i + 1) 0 ≡ get_or c (i + 1) 0 = kind-agree i l (omega arith) in
      let a : get_or d i 0 ≡ get_or c i 0 = k.same i l (omega arith) in
      let b : get_or d (i + 2) 0 ≡ get_or c (i + 2) 0 = k.same (i + 2) (omega arith) (omega arith) in
      let g = given-agree s (i + 2) (omega arith) (omega arith) in
      let gs =
      tab-cong n (λ j. given_in s d (argument_cell i j)) (λ j. given_in s c (argument_cell i j)) (λ j m. given-agree s (argument_cell i j) (omega arith) (omega arith)) in
      let ps =
      tab-cong n (λ j. high d (argument_cell i j)) (λ j. high c (argument_cell i j))
      (λ j m. ap (λ (v : ℕ). v / 65536) (k.same (argument_cell i j) (omega arith) (omega arith))) in
      rw (e, a, b, g, gs, ps) refl

  size-call : (i : ℕ) → is_call c i ≡ true → size_at c i ≡ 4 + 2 * argument_count c i
  unfolding size_at
  size-call i e = rw e (omega arith)

  change-agree : (s : List ℕ) (i : ℕ) → lo ≤ i → i + size_at c i ≤ hi → change_in s d i ≡ change_in s c i
  unfolding change_in
  change-agree s i m h =
      let l : i + 1 < hi = omega (arith, size-least c i) in
      let a : get_or d i 0 ≡ get_or c i 0 = k.same i m (omega arith) in
      rw (a, kind-agree i m l)
      (ap (λ (ps : List Piece). record { start = high c i; stop = low c i; pieces = cond (is_value c i) (value (low c (i + 1)) ∷ []) ps }) (go (is_call c i) refl))
    where
      go : (b : Bool) → is_call c i ≡ b → cond b (called (call_in s d i) ∷ []) [] ≡ cond b (called (call_in s c i) ∷ []) []
      go true e = ap (λ (q : Call). called q ∷ []) (call-agree s i m (omega (arith, size-call i e)))
      go false e = refl

module _ {c d : List ℕ} {u : ℕ} (k : Kept c d u) where
  pub given-same : (s : List ℕ) (i : ℕ) → i + 1 < u → given_in s d i ≡ given_in s c i
  given-same s i h = given-agree (kept-agree k) s i (omega arith) h

  pub parameters-same : (s : List ℕ) (x : Scope) → (first_in x) + (count_in x) ≤ u → parameters_of s d x ≡ parameters_of s c x
  parameters-same s x h = parameters-agree (kept-agree k) s x (omega arith) h

pub behind-from : (c : List ℕ) (n i : ℕ) → i ≤ behind_changes c i n
unfolding behind_changes
behind-from c zero i = le_refl i
behind-from c (suc n) i = let h = behind-from c n (i + size_at c i) in omega arith

pub changes-agree : {c d : List ℕ} {lo hi : ℕ} (k : Agree c d lo hi) (s : List ℕ) (n i : ℕ) → lo ≤ i → behind_changes c i n ≤ hi
    → (changes_in s d i n ≡ changes_in s c i n) × (behind_changes d i n ≡ behind_changes c i n)
unfolding changes_in behind_changes
changes-agree k s zero i m h = (refl, refl)
changes-agree {c} {d} k s (suc n) i m h =
    let l = behind-from c n (i + size_at c i) in
    let z : size_at d i ≡ size_at c i = size-agree k i m (omega (arith, size-least c i)) in
    let e = change-agree k s i m (omega arith) in
    let r = changes-agree k s n (i + size_at c i) (omega arith) h in
    (rw (e, z, r.0) refl, rw (z, r.1) refl)

pub changes-same : {c d : List ℕ} {u : ℕ} (k : Kept c d u) (s : List ℕ) (n i : ℕ) → behind_changes c i n ≤ u
    → (changes_in s d i n ≡ changes_in s c i n) × (behind_changes d i n ≡ behind_changes c i n)
changes-same k s n i h = changes-agree (kept-agree k) s n i (omega arith) h

-- more changes behind some
more-none : (s c : List ℕ) (n i : ℕ) → changes_in s c i n ≡ changes_in s c i zero ++ changes_in s c (behind_changes c i zero) n
unfolding changes_in behind_changes
more-none s c n i = refl

more-one : (s c : List ℕ) (m n i : ℕ) → changes_in s c (i + size_at c i) (m + n) ≡ changes_in s c (i + size_at c i) m ++ changes_in s c (behind_changes c (i + size_at c i) m) n
    → changes_in s c i (suc (m + n)) ≡ changes_in s c i (suc m) ++ changes_in s c (behind_changes c i (suc m)) n
unfolding changes_in behind_changes
more-one s c m n i h = ap (λ (cs : List Change). change_in s c i ∷ cs) h

behind-none : (c : List ℕ) (n i : ℕ) → behind_changes c i n ≡ behind_changes c (behind_changes c i zero) n
unfolding behind_changes
behind-none c n i = refl

behind-one : (c : List ℕ) (m n i : ℕ) → behind_changes c (i + size_at c i) (m + n) ≡ behind_changes c (behind_changes c (i + size_at c i) m) n
    → behind_changes c i (suc (m + n)) ≡ behind_changes c (behind_changes c i (suc m)) n
unfolding behind_changes
behind-one c m n i h = h

pub changes-more : (s c : List ℕ) (m n i : ℕ) → changes_in s c i (m + n) ≡ changes_in s c i m ++ changes_in s c (behind_changes c i m) n
changes-more s c zero n i = let e : zero + n ≡ n = omega arith in ap (changes_in s c i) e ∙ more-none s c n i
changes-more s c (suc m) n i =
    let e : suc m + n ≡ suc (m + n) = omega arith in
    ap (changes_in s c i) e ∙ more-one s c m n i (changes-more s c m n (i + size_at c i))

pub behind_more : (c : List ℕ) (m n i : ℕ) → behind_changes c i (m + n) ≡ behind_changes c (behind_changes c i m) n
behind_more c zero n i = let e : zero + n ≡ n = omega arith in ap (behind_changes c i) e ∙ behind-none c n i
behind_more c (suc m) n i = let e : suc m + n ≡ suc (m + n) = omega arith in ap (behind_changes c i) e ∙ behind-one c m n i (behind_more c m n (i + size_at c i))

-- a name or an argument that is written
as-kind : (w : List ℕ) (g : held.Given) → cond (eqb (kind_in g) 0) (typed w) (cond (eqb (kind_in g) 1) (parameter (number_in g)) (joined w (number_in g))) ≡ given_as g w
unfolding given_as
as-kind w Typed = refl
as-kind w (Parameter k) = refl
as-kind w (Joined k) = refl

module _ (s c : List ℕ) (w a b : ℕ) (g : held.Given) (room : w + 1 < length c) (lb : b < 65536) (lk : number_in g < 65536) where
  abbrev given_cells : List ℕ
  given_cells = set (set c w (paired a b)) (w + 1) (paired (kind_in g) (number_in g))

  kind_cell-is : get_or given_cells (w + 1) 0 ≡ paired (kind_in g) (number_in g)
  kind_cell-is = get_or-set_same (set c w (paired a b)) (w + 1) (paired (kind_in g) (number_in g)) 0 (simp length-set (omega arith))

  first-cell_is : get_or given_cells w 0 ≡ paired a b
  first-cell_is = get_or-set_other (set c w (paired a b)) (w + 1) w (paired (kind_in g) (number_in g)) 0 (λ e. omega arith) ∙ get_or-set_same c w (paired a b) 0 (omega arith)

  pub given-written : given_in s given_cells w ≡ given_as g (take b (drop a s))
  unfolding given_in bytes_at
  given-written = rw (kind_cell-is, first-cell_is, first_of a b lb, second-of a b lb, first_of (kind_in g) (number_in g) lk, second-of (kind_in g) (number_in g) lk) (as-kind (take b (drop a s)) g)

  pub place-written : high given_cells w ≡ a
  place-written = rw first-cell_is (first_of a b lb)

  pub given-kept : Kept c given_cells w
  given-kept = kept_on (kept_set c w (paired a b) w (le_refl w)) (kept_set (set c w (paired a b)) (w + 1) (paired (kind_in g) (number_in g)) w (omega arith)) (le_refl w)
