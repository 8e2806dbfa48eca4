-- The laws of moves between strings: the bytes wait in a buffer, are taken away, and pushed.
use mathlib.Core.Path.{◌≡◌, refl, sym, ap, ◌∙◌}
use mathlib.Core.List.{List, [], ◌++◌, append-nil}
use mathlib.Core.Logic.{◌⊎◌, ⊎_elim}
use Prim.Native.Nat.{ℕ, ◌+◌, ◌-◌, ◌≤◌, ◌<◌}
use native.Mathlib.Omega.{arith}
use lib.ListN.{length, take, drop, set, length-append, length-take, length-drop, length-set, take-append-drop}
use lib.Seq.{take_all, take-append_seam, drop-append_seam, get_or-set_same, get_or-set_other, set-set, set_comm, set-get_or}
use Rattle.std.proofs.lemmas.Bool.{cases_order}
use Rattle.gaps.specs.Below.Cells.{pasted}
use Rattle.gaps.proofs.Below.CellsLaws.{pasted-front}
use Rattle.gaps.specs.Below.Strings.{used}
use Rattle.gaps.specs.Pool.{abs, string, Holds}
use Rattle.gaps.specs.Gaps.{pushed_front}
use Rattle.gaps.proofs.Laws.{length-abs, after}
use Rattle.store.specs.Store.{Long, Copyable, dropped_front, dropped_back, Pushable, Movable, moved_front, moved_back_to_front, Exchangeable, exchanged}
use Rattle.store.proofs.Laws.{string-most, used-dropped-front, used-dropped-back}

module _ {p e : List ℕ} {i j n sc hd : ℕ} (pre : Movable p e i j n sc hd) where
  pub n-most : n ≤ 32768
  n-most = omega (arith, string-most pre.fine i, pre.within)

  source_in : i < length (abs p e)
  source_in = rw (length-abs p e) pre.source

  pub front_copyable : Copyable p e i 0 n hd
  front_copyable = record { within = record { fine = pre.fine; index = pre.source; within = omega (arith, pre.within) }; room = omega (arith, n-most, pre.room) }

  pub back_copyable : {len : ℕ} → Long p e i len → Copyable p e i (len - n) n hd
  back_copyable l = record { within = record { fine = pre.fine; index = pre.source; within = omega (arith, pre.within, l.is) }; room = omega (arith, n-most, pre.room) }

  -- what was taken away may be pushed
  pushable : {e₁ : List ℕ} {s : List (List ℕ)} (h : List ℕ) → Holds p e₁ s → used s + n ≡ used (abs p e) → Pushable p e₁ j (length (take n h)) sc
  pushable h k u =
      let l : length (take n h) ≤ n = simp length-take (omega arith) in
      record { fine = k.fine; index = pre.target; total = omega (arith, ap used k.is, u, pre.fine.fits, l); spare = pre.spare }

  pub front_pushable : {e₁ : List ℕ} (h : List ℕ) → Holds p e₁ (dropped_front i n (abs p e)) → Pushable p e₁ j (length (take n h)) sc
  front_pushable h k = pushable h k (used-dropped-front (abs p e) i source_in n pre.within)

  pub back_pushable : {e₁ : List ℕ} (h : List ℕ) → Holds p e₁ (dropped_back i n (abs p e)) → Pushable p e₁ j (length (take n h)) sc
  back_pushable h k = pushable h k (used-dropped-back (abs p e) i source_in n pre.within)

  -- the buffer has room for the bytes that wait
  pub roomy : n ≤ hd
  roomy = omega (arith, n-most, pre.room)

  -- the bytes v wait, s is what was left without them, and f pushes them
  moved : {v : List ℕ} {s : List (List ℕ)} {e₁ p₂ e₂ hold' : List ℕ} (hold : List ℕ) (f : List ℕ → List (List ℕ) → List (List ℕ)) → length v ≡ n → Holds p e₁ s
      → hold' ≡ pasted hold 0 v → Holds p₂ e₂ (f (take n hold') (abs p e₁)) → Holds p₂ e₂ (f v s)
  moved {v} {hold' = hold'} hold f l h q k = let x : take n hold' ≡ v = rw q (pasted-front hold v n l) in rw x at (after h (f (take n hold')) k)

  pub front_moved : {e₁ p₂ e₂ hold' : List ℕ} (hold : List ℕ) (f : List ℕ → List (List ℕ) → List (List ℕ)) → Holds p e₁ (dropped_front i n (abs p e))
      → hold' ≡ pasted hold 0 (take n (drop 0 (string i (abs p e)))) → Holds p₂ e₂ (f (take n hold') (abs p e₁)) → Holds p₂ e₂ (f (take n (string i (abs p e))) (dropped_front i n (abs p e)))
  front_moved hold f h q k = moved hold f (simp length-take (omega (arith, pre.within))) h q k

  pub back_moved : {len : ℕ} {e₁ p₂ e₂ hold' : List ℕ} (hold : List ℕ) (f : List ℕ → List (List ℕ) → List (List ℕ)) → Long p e i len → Holds p e₁ (dropped_back i n (abs p e))
      → hold' ≡ pasted hold 0 (take n (drop (len - n) (string i (abs p e)))) → Holds p₂ e₂ (f (take n hold') (abs p e₁))
      → Holds p₂ e₂ (f (drop (length (string i (abs p e)) - n) (string i (abs p e))) (dropped_back i n (abs p e)))
  back_moved {len} hold f l h q k =
      let v : List ℕ = string i (abs p e) in
      let d : List ℕ = drop (length v - n) v in
      let w : take n (drop (len - n) v) ≡ d = rw l.is (take_all n d (rw length-drop (omega (arith, pre.within)))) in
      moved hold f (rw length-drop (omega (arith, pre.within))) h (q ∙ ap (pasted hold 0) w) k

-- exchanging: all of i goes before j, and what was j back to i

module _ (s : List (List ℕ)) (i j : ℕ) (ne : j ≡ i → ⊥) where
  front-parts : (n : ℕ) (v w : List ℕ) → string i s ≡ v ++ w → length v ≡ n → moved_front i j n s ≡ set (set s i w) j (v ++ string j s)
  unfolding moved_front pushed_front dropped_front
  front-parts n v w q l = rw (q, ← l, take-append_seam v w, drop-append_seam v w, get_or-set_other s i j w [] ne)

  back-parts : (n : ℕ) (v w : List ℕ) → string i s ≡ v ++ w → length w ≡ n → moved_back_to_front i j n s ≡ set (set s i v) j (w ++ string j s)
  unfolding moved_back_to_front pushed_front dropped_back
  back-parts n v w q l =
      let k : length (v ++ w) - n ≡ length v = rw length-append (omega arith) in
      rw (q, k, take-append_seam v w, drop-append_seam v w, get_or-set_other s i j v [] ne)

module _ (s : List (List ℕ)) (i : ℕ) (b : i < length s) where
  front_same : (n : ℕ) → moved_front i i n s ≡ s
  unfolding moved_front pushed_front dropped_front
  front_same n =
      let v : List ℕ = string i s in
      rw (get_or-set_same s i (drop n v) [] b, take-append-drop n v, set-set s i (drop n v) v) (set-get_or s i [])

  back-same : (n : ℕ) → n ≡ length (string i s) → moved_back_to_front i i n s ≡ s
  unfolding moved_back_to_front pushed_front dropped_back
  back-same n q =
      let v : List ℕ = string i s in
      let z : length v - n ≡ 0 = omega arith in
      rw (z, get_or-set_same s i [] [] b, append-nil v, set-set s i [] v) (set-get_or s i [])

module _ (s : List (List ℕ)) (i j : ℕ) (bi : i < length s) (bj : j < length s) where
  apart : (j ≡ i → ⊥) → moved_back_to_front j i (length (string j s)) (moved_front i j (length (string i s)) s) ≡ exchanged i j s
  unfolding exchanged
  apart ne =
      let v : List ℕ = string i s in
      let w : List ℕ = string j s in
      let en : (i ≡ j → ⊥) = λ q. ne (sym q) in
      let t : List (List ℕ) = set s i [] in
      let u : List (List ℕ) = set t j (v ++ w) in
      let lt : j < length t = rw (length-set s i []) bj in
      let first : moved_front i j (length v) s ≡ u = front-parts s i j ne (length v) v [] (sym (append-nil v)) refl in
      let at_j : string j u ≡ v ++ w = get_or-set_same t j (v ++ w) [] lt in
      let at_i : string i u ≡ [] = get_or-set_other t j i (v ++ w) [] en ∙ get_or-set_same s i [] [] bi in
      rw (first, back-parts u j i en (length w) v w at_j refl, at_i, append-nil w, set-set t j (v ++ w) v, set_comm t j i v w ne, set-set s i [] w)

  together : j ≡ i → moved_back_to_front j i (length (string j s)) (moved_front i j (length (string i s)) s) ≡ exchanged i j s
  unfolding exchanged
  together q =
      rw (q, front_same s i bi (length (string i s)), back-same s i bi (length (string i s)) refl, set-get_or s i []) (sym (set-get_or s i []))

  exchange-is : moved_back_to_front j i (length (string j s)) (moved_front i j (length (string i s)) s) ≡ exchanged i j s
  exchange-is = ⊎_elim together (λ (w : (j < i) ⊎ (i < j)). apart (λ q. ⊎_elim (λ k. omega arith) (λ k. omega arith) w)) (cases_order j i)

module _ {p e : List ℕ} {i j n m sc hd : ℕ} (pre : Exchangeable p e i j sc hd) (ln : Long p e i n) (lm : Long p e j m) where
  pub first-movable : {sc' hd' : ℕ} → 65536 ≤ sc' → 32768 ≤ hd' → Movable p e i j n sc' hd'
  first-movable x y = record { fine = pre.fine; source = pre.source; target = pre.target; within = omega (arith, ln.is); spare = x; room = y }

  -- what was j is still the end of j
  still : m ≤ length (string j (moved_front i j n (abs p e)))
  still = ⊎_elim
      (λ (q : j ≡ i). rw (q, front_same (abs p e) i (rw (length-abs p e) pre.source) n) (omega (arith, lm.is, ap (λ (k : ℕ). length (string k (abs p e))) q)))
      (λ (w : (j < i) ⊎ (i < j)). let ne : (j ≡ i → ⊥) = λ q. ⊎_elim (λ k. omega arith) (λ k. omega arith) w in
      let v : List ℕ = take n (string i (abs p e)) in
      let t : List (List ℕ) = set (abs p e) i (drop n (string i (abs p e))) in
      let l : length v ≡ n = simp length-take (omega (arith, ln.is)) in
      let b : j < length t = rw (length-set (abs p e) i (drop n (string i (abs p e))), length-abs p e) pre.target in
      rw (front-parts (abs p e) i j ne n v (drop n (string i (abs p e))) (sym (take-append-drop n (string i (abs p e)))) l, get_or-set_same t j (v ++ string j (abs p e)) [] b, length-append)
      (omega (arith, lm.is)))
      (cases_order j i)

  pub second-movable : {p₁ e₁ : List ℕ} {sc' hd' : ℕ} → Holds p₁ e₁ (moved_front i j n (abs p e)) → 65536 ≤ sc' → 32768 ≤ hd' → Movable p₁ e₁ j i m sc' hd'
  second-movable h x y = record { fine = h.fine; source = pre.target; target = pre.source; within = rw h.is still; spare = x; room = y }

  pub exchange-end : {p₁ e₁ p₂ e₂ : List ℕ} → Holds p₁ e₁ (moved_front i j n (abs p e)) → Holds p₂ e₂ (moved_back_to_front j i m (abs p₁ e₁)) → Holds p₂ e₂ (exchanged i j (abs p e))
  exchange-end h k =
      let q = exchange-is (abs p e) i j (rw (length-abs p e) pre.source) (rw (length-abs p e) pre.target) in
      rw q at (rw (ln.is, lm.is) at (after h (moved_back_to_front j i m) k))
