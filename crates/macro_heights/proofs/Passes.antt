-- A pass over the macros at one level.
use mathlib.Core.Path.{◌≡◌, refl, sym, ap, ◌∙◌}
use mathlib.Core.Bool.{Bool, not-not, true, false, cond, not, true≢false}
use mathlib.Core.List.{List}
use Prim.Native.Nat.{ℕ, zero, suc, ◌+◌, ◌-◌, ◌≤◌, ◌<◌}
use native.Mathlib.Decide.{dec_lt}
use native.Mathlib.Omega.{arith}
use borrow.Author.Tests.{lt-ltb, le-ltb, le-leb, lt-leb, leb-true, leb-false}
use lib.Dec.{leb, ltb, leb-suc-suc}
use lib.ListN.{length, get_or, set, length-set}
use lib.Seq.{get_or-set_same, get_or-set_other}
use Rattle.macros.specs.Expansion.{levels}
use Rattle.macros.specs.Macros.{Macro}
use Rattle.macros.specs.Silence.{silent, fixed}
use Rattle.macro_code.specs.Code.{body_in, macros_in}
use Rattle.macro_heights.specs.Levels.{Quiet, Loose, quiet_table, loose_table, Rises, HeightAt, Settled}
use Rattle.macro_heights.proofs.Rising.{quiet-rises, loose-rises, quiet_before, loose_before, quiet-level, loose-level}

-- below the level l all heights are known, and at l those of the first j macros
pub record InPass (table : ℕ → ℕ → Bool) (n l j : ℕ) (row : List ℕ) : Type 0 where
  pub room : n ≤ length row
  pub most : j ≤ n
  pub below : (k m : ℕ) → k < n → m < l → leb (get_or row k 0) m ≡ table m k
  pub here : (k : ℕ) → k < j → leb (get_or row k 0) l ≡ table l k
  pub left : (k : ℕ) → j ≤ k → k < n → get_or row k 0 < levels → get_or row k 0 < l
  pub done : (k : ℕ) → k < j → get_or row k 0 < levels → get_or row k 0 < l + 1

-- what holds of a row's numbers, after one is put in
module _ (P : ℕ → ℕ → Type 0) (row : List ℕ) (j x : ℕ) (h : j < length row) where
  put_other : (k : ℕ) → (k ≡ j → ⊥) → P k (get_or row k 0) → P k (get_or (set row j x) k 0)
  put_other k u p = rw (get_or-set_other row j k x 0 u) p

  put_all : (k : ℕ) → P j x → ((k ≡ j → ⊥) → P k (get_or row k 0)) → P k (get_or (set row j x) k 0)
  put_all k p q = go (dec_lt k j) (dec_lt j k)
    where
      go : Dec (k < j) → Dec (j < k) → P k (get_or (set row j x) k 0)
      go (yes u) v = let z : k ≡ j → ⊥ = λ e. omega (arith, e) in put_other k z (q z)
      go (no u) (yes v) = let z : k ≡ j → ⊥ = λ e. omega (arith, e) in put_other k z (q z)
      go (no u) (no v) = let e : k ≡ j = omega arith in rw (e, get_or-set_same row j x 0 h) p

module _ (table : ℕ → ℕ → Bool) (n l : ℕ) where
  module _ {j : ℕ} {row : List ℕ} (p : InPass table n l j row) (h : j < n) (low : l < levels) where
    pass_same : leb (get_or row j 0) l ≡ table l j → InPass table n l (j + 1) row
    pass_same e =
        record {
          room = p.room;
          most = omega arith;
          below = p.below;
          here = λ k u. here-now k u (dec_lt k j);
          left = λ k u. p.left k (omega arith);
          done = λ k u v. done-now k u v (dec_lt k j);
        }
      where
        here-now : (k : ℕ) → k < j + 1 → Dec (k < j) → leb (get_or row k 0) l ≡ table l k
        here-now k u (yes v) = p.here k v
        here-now k u (no v) = let z : k ≡ j = omega arith in rw z e

        done-now : (k : ℕ) → k < j + 1 → get_or row k 0 < levels → Dec (k < j) → get_or row k 0 < l + 1
        done-now k u v (yes w) = p.done k w v
        done-now k u v (no w) = let z : get_or row k 0 < l = p.left k (omega arith) (omega arith) v in omega arith

    pass-put : levels ≤ get_or row j 0 → table l j ≡ true → InPass table n l (j + 1) (set row j l)
    pass-put a t =
        record {
          room = simp length-set (omega (arith, p.room));
          most = omega arith;
          below = λ k m u v. put_all (λ i x. leb x m ≡ table m i) row j l inside k (lt-leb l m v ∙ sym (lt-leb (get_or row j 0) m (omega arith)) ∙ p.below j m h v) (λ z. p.below k m u v);
          here = λ k u. put_all (λ i x. leb x l ≡ table l i) row j l inside k (le-leb l l (omega arith) ∙ sym t) (λ z. p.here k (omega (arith, z)));
          left = λ k u v. put_other (λ i x. x < levels → x < l) row j l inside k (λ z. omega (arith, u, z)) (p.left k (omega arith) v);
          done = λ k u. put_all (λ i x. x < levels → x < l + 1) row j l inside k (λ w. omega arith) (λ z. p.done k (omega (arith, z)));
        }
      where
        inside : j < length row
        inside = omega (arith, p.room)

    pub pass_on : Rises table → {height : ℕ} → HeightAt table n l row j height → {after : List ℕ} → Settled row j height l after → InPass table n l (j + 1) after
    pass_on rises {height} found {after} s = rw s.is (go (leb height l) refl (leb levels (get_or row j 0)) refl)
      where
        e : leb height l ≡ table l j
        e = found.is p.below

        falls : table l j ≡ false → Dec (get_or row j 0 < levels) → leb (get_or row j 0) l ≡ false
        falls t (no u) = lt-leb (get_or row j 0) l (omega arith)
        falls t (yes u) =
            let v : get_or row j 0 < l = p.left j (omega arith) h u in
            let m : ℕ = l - 1 in
            let z : l ≡ suc (l - 1) = omega arith in
            let at : table (l - 1) j ≡ true = sym (p.below j (l - 1) h (omega arith)) ∙ le-leb (get_or row j 0) (l - 1) (omega arith) in
            absurd (true≢false (sym (ap (λ (i : ℕ). table i j) z ∙ rises.next (l - 1) j at) ∙ t))

        go : (a : Bool) → leb height l ≡ a → (b : Bool) → leb levels (get_or row j 0) ≡ b → InPass table n l (j + 1) (cond a (cond b (set row j l) row) row)
        go true u true v = pass-put (leb-true levels (get_or row j 0) v) (sym e ∙ u)
        go true u false v =
            let w : get_or row j 0 < levels = leb-false levels (get_or row j 0) v in
            let x : get_or row j 0 < l = p.left j (omega arith) h w in
            pass_same (le-leb (get_or row j 0) l (omega arith) ∙ sym u ∙ e)
        go false u b v = pass_same (falls (sym e ∙ u) (dec_lt (get_or row j 0) levels) ∙ sym u ∙ e)

-- a body's height is that of the table
above : (x m : ℕ) → ltb m x ≡ not (leb x m)
above x m = go (dec_lt m x)
  where
    go : Dec (m < x) → ltb m x ≡ not (leb x m)
    go (yes u) = rw (lt-ltb m x u, lt-leb x m u) refl
    go (no u) = rw (le-ltb m x (omega arith), le-leb x m (omega arith)) refl

module _ (s c firsts : List ℕ) (n : ℕ) where
  abbrev ms : List Macro
  ms = macros_in s c firsts n

  Below : (ℕ → ℕ → Bool) → ℕ → List ℕ → Type 0
  Below table l row = (k m : ℕ) → k < n → m < l → leb (get_or row k 0) m ≡ table m k

  quiet-fits : (row : List ℕ) (l : ℕ) → Below (quiet_table s c firsts n) l row → (k : ℕ) → k < n → quiet_before ms l (body_in s c (get_or firsts k 0)) ≡ leb (suc (get_or row k 0)) l
  unfolding Below
  quiet-fits row zero p k u = sym (lt-leb (suc (get_or row k 0)) 0 (omega arith))
  quiet-fits row (suc m) p k u = sym (leb-suc-suc (get_or row k 0) m ∙ p k m u (omega arith))

  loose-fits : (row : List ℕ) (l : ℕ) → Below (loose_table s c firsts n) l row → (k : ℕ) → k < n → loose_before ms l (body_in s c (get_or firsts k 0)) ≡ ltb l (suc (get_or row k 0))
  unfolding Below
  loose-fits row zero p k u = sym (lt-ltb 0 (suc (get_or row k 0)) (omega arith))
  loose-fits row (suc m) p k u =
      sym (above (suc (get_or row k 0)) (suc m) ∙ ap not (leb-suc-suc (get_or row k 0) m ∙ p k m u (omega arith)) ∙ not-not (fixed ms m (body_in s c (get_or firsts k 0))))

  module _ (l : ℕ) {row : List ℕ} {j : ℕ} {q : ℕ} {height : ℕ} (h : l < levels) (e : q ≡ get_or firsts j 0) where
    pub quiet_found : Quiet s c firsts n row (body_in s c q) height → HeightAt (quiet_table s c firsts n) n l row j height
    unfolding Below
    quiet_found m =
        record { is = λ p. m.is l h (quiet_before ms l) (quiet-fits row l p) ∙ sym (quiet-level ms l (body_in s c q)) ∙ ap (λ (i : ℕ). silent ms l (body_in s c i)) e }

    pub loose_found : Loose s c firsts n row (body_in s c q) height → HeightAt (loose_table s c firsts n) n l row j height
    unfolding Below
    loose_found m =
        record {
          is = λ p. sym (not-not (leb height l)) ∙ ap not (sym (above height l) ∙ m.is l h (loose_before ms l) (loose-fits row l p) ∙ sym (loose-level ms l (body_in s c q)) ∙ ap (λ (i : ℕ). fixed ms l (body_in s c i)) e);
        }

  pub quiet_climbs : Rises (quiet_table s c firsts n)
  quiet_climbs = record { next = λ m k. quiet-rises ms m (body_in s c (get_or firsts k 0)) }

  pub loose_climbs : Rises (loose_table s c firsts n)
  loose_climbs = record { next = λ m k. loose-rises ms m (body_in s c (get_or firsts k 0)) }
