-- A table as its parts end to end: a run written into the table is one written into a part, and what is added to a padded part is such a run.
use mathlib.Core.Path.{◌≡◌, sym, ap, ◌∙◌}
use mathlib.Core.List.{List, [], ◌∷◌, ◌++◌, append_assoc}
use Prim.Native.Nat.{ℕ, ◌+◌, ◌-◌, ◌≤◌, ◌<◌}
use native.Mathlib.Omega.{arith}
use lib.ListN.{length, set, take, drop, replicate, length-append, length-set, length-replicate, replicate-append-replicate, take-append-drop}
use lib.Seq.{take-append-le, drop-append-le, take-append-add, drop-append-add, take-append_seam, take_at, drop_at, drop-drop, set-append_left, length-take-le}
use Rattle.blocks.proofs.Laws.{set-one}
use Rattle.blocks.proofs.Below.CellsLaws.{length-pasted}
use Rattle.blocks.specs.Below.Cells.{pasted}
use Rattle.blocks.proofs.Below.LayoutCellLaws.{length-padded}
use Rattle.blocks.specs.Below.LayoutCells.{padded}
use Rattle.blocks.specs.Below.LayoutPlaces as layout

-- ---- a run in one of two lists

pub pasted-left : (x t s : List ℕ) (k : ℕ) → k + length s ≤ length x → pasted (x ++ t) k s ≡ pasted x k s ++ t
pasted-left x t s k h = rw (take-append-le k x t (omega arith), drop-append-le (k + length s) x t h) (simp append_assoc)

pub pasted-right : (a x s : List ℕ) (n k : ℕ) → n ≡ length a + k → pasted (a ++ x) n s ≡ a ++ pasted x k s
pasted-right a x s n k e =
    let z : length a + k + length s ≡ length a + (k + length s) = omega arith in
    rw (e, z, take-append-add a x k, drop-append-add a x (k + length s)) (append_assoc a (take k x) (s ++ drop (k + length s) x))

-- the first n cells, and those beyond
module _ (c s : List ℕ) (at n : ℕ) (h : at + length s ≤ n) (l : n ≤ length c) where
  first-long : length (take n c) ≡ n
  first-long = length-take-le n c l

  two-parts : pasted c at s ≡ pasted (take n c) at s ++ drop n c
  two-parts =
      ap (λ (x : List ℕ). pasted x at s) (sym (take-append-drop n c)) ∙ pasted-left (take n c) (drop n c) s at (omega (arith, first-long))

  part-long : length (pasted (take n c) at s) ≡ n
  part-long = length-pasted (take n c) at s (omega (arith, first-long)) ∙ first-long

  pub pasted-first : take n (pasted c at s) ≡ pasted (take n c) at s
  pasted-first = rw two-parts (take_at (pasted (take n c) at s) (drop n c) n part-long)

  pub pasted-beyond : drop n (pasted c at s) ≡ drop n c
  pasted-beyond = rw two-parts (drop_at (pasted (take n c) at s) (drop n c) n part-long)

-- ---- a padded part

zeros-left : (m n : ℕ) → m ≤ n → drop {A = ℕ} m (replicate n 0) ≡ replicate (n - m) 0
zeros-left m n h =
    let e : n ≡ m + (n - m) = omega arith in
    ap (λ (k : ℕ). drop {A = ℕ} m (replicate k 0)) e
    ∙ ap (drop m) (sym (replicate-append-replicate {A = ℕ} m (n - m) 0))
    ∙ drop_at (replicate m 0) (replicate (n - m) 0) m (length-replicate m 0)

-- what is added stands behind what is there
pub padded-more : (n : ℕ) (l m : List ℕ) → length l + length m ≤ n → pasted (padded n l) (length l) m ≡ padded n (l ++ m)
unfolding padded
padded-more n l m h =
    let r : List ℕ = replicate (n - length l) 0 in
    let e : drop (length l + length m) (l ++ r) ≡ replicate (n - length (l ++ m)) 0 =
    drop-append-add l r (length m)
    ∙ zeros-left (length m) (n - length l) (omega arith)
    ∙ ap (λ (k : ℕ). replicate k 0) (let q : n - length l - length m ≡ n - length (l ++ m) = simp length-append (omega arith) in q) in
    rw (take-append_seam l r, e) (sym (append_assoc l m (replicate (n - length (l ++ m)) 0)))

-- a cell changed among those that are there
pub padded-set : (n : ℕ) (l : List ℕ) (k x : ℕ) → k < length l → set (padded n l) k x ≡ padded n (set l k x)
unfolding padded
padded-set n l k x h = set-append_left l (replicate (n - length l) 0) k x h ∙ rw (length-set l k x)

-- ---- seven parts and zeros

abbrev pub laid : List ℕ → List ℕ → List ℕ → List ℕ → List ℕ → List ℕ → List ℕ → List ℕ
laid a b c d e f g = a ++ (b ++ (c ++ (d ++ (e ++ (f ++ (g ++ replicate 1752 0))))))

pub record Sizes (a b c d e f g : List ℕ) : Type 0 where
  pub a_is : length a ≡ 8
  pub b_is : length b ≡ 2048
  pub c_is : length c ≡ 2048
  pub d_is : length d ≡ 2048
  pub e_is : length e ≡ 32
  pub f_is : length f ≡ 128
  pub g_is : length g ≡ 128

module _ (a b c d e f g : List ℕ) (z : Sizes a b c d e f g) where
  abbrev t6 : List ℕ
  t6 = g ++ replicate 1752 0

  abbrev t5 : List ℕ
  t5 = f ++ t6

  abbrev t4 : List ℕ
  t4 = e ++ t5

  abbrev t3 : List ℕ
  t3 = d ++ t4

  abbrev t2 : List ℕ
  t2 = c ++ t3

  abbrev t1 : List ℕ
  t1 = b ++ t2

  module _ (s : List ℕ) (k : ℕ) where
    past-1 : pasted (laid a b c d e f g) (8 + k) s ≡ a ++ pasted t1 k s
    past-1 = pasted-right a t1 s (8 + k) k (omega (arith, z.a_is))

    past-2 : pasted t1 (2048 + k) s ≡ b ++ pasted t2 k s
    past-2 = pasted-right b t2 s (2048 + k) k (omega (arith, z.b_is))

    past-3 : pasted t2 (2048 + k) s ≡ c ++ pasted t3 k s
    past-3 = pasted-right c t3 s (2048 + k) k (omega (arith, z.c_is))

    past-4 : pasted t3 (2048 + k) s ≡ d ++ pasted t4 k s
    past-4 = pasted-right d t4 s (2048 + k) k (omega (arith, z.d_is))

    past-5 : pasted t4 (32 + k) s ≡ e ++ pasted t5 k s
    past-5 = pasted-right e t5 s (32 + k) k (omega (arith, z.e_is))

    past-6 : pasted t5 (128 + k) s ≡ f ++ pasted t6 k s
    past-6 = pasted-right f t6 s (128 + k) k (omega (arith, z.f_is))

  module _ (s : List ℕ) (k : ℕ) where
    abbrev run : List ℕ → ℕ → List ℕ
    run x n = pasted x n s

    sum : (x : List ℕ) (m n : ℕ) → m ≡ n → run x m ≡ run x n
    sum x m n h = ap (run x) h

    pub in_code : k + length s ≤ 2048 → pasted (laid a b c d e f g) (8 + k) s ≡ laid a (pasted b k s) c d e f g
    in_code h = past-1 s k ∙ ap (λ (x : List ℕ). a ++ x) (pasted-left b t2 s k (omega (arith, z.b_is)))

    pub in-labels : k + length s ≤ 2048 → pasted (laid a b c d e f g) (layout.first_label + k) s ≡ laid a b (pasted c k s) d e f g
    in-labels h =
        sum (laid a b c d e f g) (layout.first_label + k) (8 + (2048 + k)) (omega arith) ∙ past-1 s (2048 + k)
        ∙ ap (λ (x : List ℕ). a ++ x) (past-2 s k)
        ∙ ap (λ (x : List ℕ). a ++ (b ++ x)) (pasted-left c t3 s k (omega (arith, z.c_is)))

    pub in_texts : k + length s ≤ 2048 → pasted (laid a b c d e f g) (layout.first_text + k) s ≡ laid a b c (pasted d k s) e f g
    in_texts h =
        sum (laid a b c d e f g) (layout.first_text + k) (8 + (2048 + (2048 + k))) (omega arith) ∙ past-1 s (2048 + (2048 + k))
        ∙ ap (λ (x : List ℕ). a ++ x) (past-2 s (2048 + k))
        ∙ ap (λ (x : List ℕ). a ++ (b ++ x)) (past-3 s k)
        ∙ ap (λ (x : List ℕ). a ++ (b ++ (c ++ x))) (pasted-left d t4 s k (omega (arith, z.d_is)))

    past-texts : pasted (laid a b c d e f g) (layout.first_switch + k) s ≡ a ++ (b ++ (c ++ (d ++ pasted t4 k s)))
    past-texts =
        sum (laid a b c d e f g) (layout.first_switch + k) (8 + (2048 + (2048 + (2048 + k)))) (omega arith) ∙ past-1 s (2048 + (2048 + (2048 + k)))
        ∙ ap (λ (x : List ℕ). a ++ x) (past-2 s (2048 + (2048 + k)))
        ∙ ap (λ (x : List ℕ). a ++ (b ++ x)) (past-3 s (2048 + k))
        ∙ ap (λ (x : List ℕ). a ++ (b ++ (c ++ x))) (past-4 s k)

    pub in-switches : k + length s ≤ 32 → pasted (laid a b c d e f g) (layout.first_switch + k) s ≡ laid a b c d (pasted e k s) f g
    in-switches h = past-texts ∙ ap (λ (x : List ℕ). a ++ (b ++ (c ++ (d ++ x)))) (pasted-left e t5 s k (omega (arith, z.e_is)))

  module _ (s : List ℕ) (k : ℕ) where
    abbrev front : List ℕ → List ℕ
    front x = a ++ (b ++ (c ++ (d ++ x)))

    pub in-entries : k + length s ≤ 128 → pasted (laid a b c d e f g) (layout.first_entry + k) s ≡ laid a b c d e (pasted f k s) g
    in-entries h =
        sum s k (laid a b c d e f g) (layout.first_entry + k) (layout.first_switch + (32 + k)) (omega arith) ∙ past-texts s (32 + k)
        ∙ ap front (past-5 s k)
        ∙ ap (λ (x : List ℕ). front (e ++ x)) (pasted-left f t6 s k (omega (arith, z.f_is)))

    pub in_numbers : k + length s ≤ 128 → pasted (laid a b c d e f g) (layout.first_number + k) s ≡ laid a b c d e f (pasted g k s)
    in_numbers h =
        sum s k (laid a b c d e f g) (layout.first_number + k) (layout.first_switch + (32 + (128 + k))) (omega arith) ∙ past-texts s (32 + (128 + k))
        ∙ ap front (past-5 s (128 + k))
        ∙ ap (λ (x : List ℕ). front (e ++ x)) (past-6 s k)
        ∙ ap (λ (x : List ℕ). front (e ++ (f ++ x))) (pasted-left g (replicate 1752 0) s k (omega (arith, z.g_is)))

  pub laid-long : length (laid a b c d e f g) ≡ 8192
  laid-long =
      simp length-append (omega (arith, z.a_is, z.b_is, z.c_is, z.d_is, z.e_is, z.f_is, z.g_is, length-replicate {A = ℕ} 1752 0))

  -- where the parts stand
  at-labels : drop layout.first_label (laid a b c d e f g) ≡ t2
  at-labels = sym (drop-drop 2048 8 (laid a b c d e f g)) ∙ rw (drop_at a t1 8 z.a_is) (drop_at b t2 2048 z.b_is)

  pub labels_at : drop layout.first_label (laid a b c d e f g) ≡ c ++ t3
  labels_at = at-labels

  pub texts-at : drop layout.first_text (laid a b c d e f g) ≡ d ++ t4
  texts-at = sym (drop-drop 2048 layout.first_label (laid a b c d e f g)) ∙ rw at-labels (drop_at c t3 2048 z.c_is)

  pub switches-at : drop layout.first_switch (laid a b c d e f g) ≡ e ++ t5
  switches-at = sym (drop-drop 2048 layout.first_text (laid a b c d e f g)) ∙ rw texts-at (drop_at d t4 2048 z.d_is)

  pub entries_at : drop layout.first_entry (laid a b c d e f g) ≡ f ++ t6
  entries_at = sym (drop-drop 32 layout.first_switch (laid a b c d e f g)) ∙ rw switches-at (drop_at e t5 32 z.e_is)

  pub numbers-at : drop layout.first_number (laid a b c d e f g) ≡ g ++ replicate 1752 0
  numbers-at = sym (drop-drop 128 layout.first_entry (laid a b c d e f g)) ∙ rw entries_at (drop_at f t6 128 z.f_is)

  -- one cell of a part
  module _ (k x : ℕ) where
    pub set_code : k < 2048 → set (laid a b c d e f g) (8 + k) x ≡ laid a (set b k x) c d e f g
    set_code h =
        set-one (laid a b c d e f g) (8 + k) x (omega (arith, laid-long)) ∙ in_code (x ∷ []) k (omega arith)
        ∙ ap (λ (l : List ℕ). laid a l c d e f g) (sym (set-one b k x (omega (arith, z.b_is))))

    pub set-switches : k < 32 → set (laid a b c d e f g) (layout.first_switch + k) x ≡ laid a b c d (set e k x) f g
    set-switches h =
        set-one (laid a b c d e f g) (layout.first_switch + k) x (omega (arith, laid-long)) ∙ in-switches (x ∷ []) k (omega arith)
        ∙ ap (λ (l : List ℕ). laid a b c d l f g) (sym (set-one e k x (omega (arith, z.e_is))))

    pub set-entries : k < 128 → set (laid a b c d e f g) (layout.first_entry + k) x ≡ laid a b c d e (set f k x) g
    set-entries h =
        set-one (laid a b c d e f g) (layout.first_entry + k) x (omega (arith, laid-long)) ∙ in-entries (x ∷ []) k (omega arith)
        ∙ ap (λ (l : List ℕ). laid a b c d e l g) (sym (set-one f k x (omega (arith, z.f_is))))

-- one cell behind those that are there
pub padded-one : (n : ℕ) (l : List ℕ) (x : ℕ) → length l < n → set (padded n l) (length l) x ≡ padded n (l ++ (x ∷ []))
padded-one n l x h = set-one (padded n l) (length l) x (omega (arith, length-padded n l (omega arith))) ∙ padded-more n l (x ∷ []) (omega arith)
