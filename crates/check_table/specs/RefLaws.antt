-- References to the tables of texts and numbers: tested by their value, they refer to what is kept, and are written as they are read.
use Rattle.std.specs.Prelude.{◌≡◌, refl, Bool, false, cond, ◌&&◌, ◌||◌, leb, ltb, length, get_or, ℤ, pos, negsuc, nat_abs}
use Rattle.std.proofs.Common.{sym, ap, ◌∙◌, le→leb, lt→ltb, lt-ltb, le-ltb, le-leb, ne_eqb, leb-true}
use Rattle.std.proofs.Math.Path.{subst}
use Rattle.std.proofs.Math.Bool.{true}
use mathlib.Core.List.{List, [], ◌∷◌}
use Prim.Native.Nat.{ℕ, zero, suc, ◌+◌, ◌-◌, ◌≤◌, ◌<◌}
use Rattle.std.proofs.Math.Decide.{dec_lt, ℕ_discrete}
use native.Mathlib.Omega.{arith}
use Rattle.std.proofs.Math.Dec.{T, ltb→lt}
use Rattle.std.proofs.lemmas.Bool.{lt-leb}
use Rattle.characters.specs.Characters.{known}
use Rattle.language.specs.Program.{Program}
use Rattle.language.specs.Values.{same_number, in_range}
use Rattle.lists.specs.ListLaws.{T-left, T-right, T-both, same_bytes-eq, same_bytes-refl}
use Rattle.lists.specs.Lists.{any, all, ahead, filled, bytes_equal}
use Rattle.machine.proofs.ValueLaws.{same_number-eq, same_number-refl}
use Rattle.machine.specs.WellFormed.{good_word, good_text, kept_text, kept_number, different}
use Rattle.layout.proofs.CellLaws.{length-tab, get_d-tab, each_at, found}
use Rattle.layout.specs.Cells.{cell, code, uncode, tab}
use Rattle.layout.proofs.ProgramLaws.{known-below}
use Rattle.layout.specs.Table.{text_ref, number_ref, text_in, number_in, text_by, number_by, switch_in}
use Rattle.check_parts.specs.Parts.{ref_fits}
use Rattle.check_table.specs.NameLaws.{kept_good}
use Rattle.check_table.specs.SearchLaws.{left_or, right_or, any_at, ahead_own, code-uncode, uncode-size, number_good}

-- the program p has the counts, texts and numbers of the cells t, and its texts and numbers are in range and differ
pub record Kept (t : List ℕ) (p : Program) : Type 0 where
  pub code_count : length p.code ≡ cell t 0
  pub label_count : length p.labels ≡ cell t 1
  pub switch_count : length p.switches ≡ cell t 2
  pub switches_are : p.switches ≡ tab (cell t 2) (switch_in t)
  pub texts_are : p.texts ≡ tab (cell t 4) (text_in t)
  pub texts_good : (k : ℕ) → k < cell t 4 → T (kept_good (text_in t k))
  pub texts_new : T (different bytes_equal p.texts)
  pub numbers_are : p.numbers ≡ tab (cell t 5) (number_in t)
  pub numbers_good : (k : ℕ) → k < cell t 5 → T (number_good (number_in t k))
  pub numbers_new : T (different same_number p.numbers)

code-small : (z : ℤ) → nat_abs z ≤ 15 → code z < 8388623
unfolding code
code-small (pos n) h = omega (arith, h)
code-small (negsuc n) h = omega (arith, h)

module _ (t : List ℕ) (p : Program) (kept : Kept t p) where
  text_count : length p.texts ≡ cell t 4
  text_count = ap length kept.texts_are ∙ length-tab (cell t 4) (text_in t)

  text_at : (k : ℕ) → k < cell t 4 → get_or p.texts k [] ≡ text_in t k
  text_at k b = ap (λ (xs : List (List ℕ)). get_or xs k []) kept.texts_are ∙ get_d-tab (cell t 4) (text_in t) k [] b

  number_count : length p.numbers ≡ cell t 5
  number_count = ap length kept.numbers_are ∙ length-tab (cell t 5) (number_in t)

  number_at : (k : ℕ) → k < cell t 5 → get_or p.numbers k (pos 0) ≡ number_in t k
  number_at k b = ap (λ (xs : List ℤ). get_or xs k (pos 0)) kept.numbers_are ∙ get_d-tab (cell t 5) (number_in t) k (pos 0) b

  -- ---- texts

  pub record TextRef (v : ℕ) : Type 0 where
    pub good : T (good_text (text_by t v))
    pub has : T (kept_text p (text_by t v))
    pub is : text_ref p (text_by t v) ≡ v

  one : (v : ℕ) → 0 < v → v < 256 → text_by t v ≡ v ∷ []
  one v a b = rw (ne_eqb v 0 (λ e. omega (arith, a, e)), lt-ltb v 256 b)

  more : (v : ℕ) → 256 ≤ v → text_by t v ≡ text_in t (v - 256)
  more v a = rw (ne_eqb v 0 (λ e. omega (arith, a, e)), le-ltb v 256 a)

  some_byte : (v : ℕ) → T (known v) → 0 < v
  unfolding known
  some_byte zero h = absurd h
  some_byte (suc v) h = omega arith

  one-ref : (v : ℕ) → T (known v) → v < 256 → TextRef v
  one-ref v h b =
      let e : text_by t v ≡ v ∷ [] = one v (some_byte v h) b in
      record {
        good = rw e (T-both (known v && true) (leb 1 60) (T-both (known v) true h tt) tt);
        has = rw e tt;
        is = rw e;
      }

  place-ref : (v k : ℕ) → v ≡ 256 + k → k < cell t 4 → TextRef v
  place-ref v k a b =
      let z : v - 256 ≡ k = omega (arith, a) in
      let w : List ℕ = text_in t k in
      let e : text_by t v ≡ w = more v (omega (arith, a)) ∙ ap (text_in t) z in
      let g = kept.texts_good k b in
      let long : leb (length w) 1 ≡ false = lt-leb (length w) 1 (ltb→lt 1 (length w) (T-left (ltb 1 (length w)) (good_text w) g)) in
      let i : get_or p.texts k [] ≡ w = text_at k b in
      let l : k < length p.texts = omega (arith, b, text_count) in
      let own : ahead (bytes_equal w) p.texts ≡ k = ap (λ (x : List ℕ). ahead (bytes_equal x) p.texts) (sym i) ∙ ahead_own bytes_equal same_bytes-eq same_bytes-refl [] p.texts kept.texts_new k l in
      let there : T (any (bytes_equal w) p.texts) =
      any_at bytes_equal same_bytes-eq same_bytes-refl [] (bytes_equal w) p.texts k l (subst (λ (x : List ℕ). T (bytes_equal w x)) (sym i) (same_bytes-refl w)) in
      record {
        good = rw e (T-right (ltb 1 (length w)) (good_text w) g);
        has = rw e (right_or (leb (length w) 1) (any (bytes_equal w) p.texts) there);
        is = rw (e, long, own) (sym a);
      }

  pub ref-sound : (v : ℕ) → T (ref_fits t v) → TextRef v
  unfolding ref_fits
  ref-sound v h = go (dec_lt v 256) h
    where
      go : Dec (v < 256) → T (cond (ltb v 256) (known v) (ltb v (256 + cell t 4))) → TextRef v
      go (yes b) h = one-ref v (subst (λ (x : Bool). T (cond x (known v) (ltb v (256 + cell t 4)))) (lt-ltb v 256 b) h) b
      go (no b) h =
          let c : v < 256 + cell t 4 = ltb→lt v (256 + cell t 4) (subst (λ (x : Bool). T (cond x (known v) (ltb v (256 + cell t 4)))) (le-ltb v 256 (omega arith)) h) in
          place-ref v (v - 256) (omega arith) (omega (arith, c))

  good-known : (w : List ℕ) → T (good_text w) → T (all known w)
  good-known w h = T-right (filled w) (all known w) (T-left (good_word w) (leb (length w) 60) h)

  no_more : (v : ℕ) (w : List ℕ) → 256 ≤ v → T (good_text w) → T (kept_text p w) → text_ref p w ≡ v → v < 256 + cell t 4
  no_more v w a g k e = go (leb (length w) 1) refl k e
    where
      small : cell w 0 < 256
      small = each_at (λ x. x < 256) 0 (omega arith) w (known-below w (good-known w g)) 0

      go : (b : Bool) → leb (length w) 1 ≡ b → T (b || any (bytes_equal w) p.texts) → cond b (cell w 0) (256 + ahead (bytes_equal w) p.texts) ≡ v → v < 256 + cell t 4
      go true f k e = absurd (omega (arith, small, e, a))
      go false f k e = omega (arith, e, (found (bytes_equal w) [] p.texts k).1, text_count)

  pub ref-complete : (v : ℕ) → TextRef v → T (ref_fits t v)
  unfolding ref_fits
  ref-complete v r = go (dec_lt v 256) (ℕ_discrete v 0)
    where
      go : Dec (v < 256) → Dec (v ≡ 0) → T (cond (ltb v 256) (known v) (ltb v (256 + cell t 4)))
      go (yes b) (yes z) = absurd (subst (λ (x : ℕ). T (good_text (text_by t x))) z r.good)
      go (yes b) (no z) =
          let g : T (good_text (v ∷ [])) = subst (λ (w : List ℕ). T (good_text w)) (one v (omega (arith, z)) b) r.good in
          rw (lt-ltb v 256 b) (T-left (known v) true (good-known (v ∷ []) g))
      go (no b) z = rw (le-ltb v 256 (omega arith)) (lt→ltb v (256 + cell t 4) (no_more v (text_by t v) (omega arith) r.good r.has r.is))

  -- ---- numbers

  pub record NumberRef (v : ℕ) : Type 0 where
    pub good : T (in_range (number_by t v))
    pub has : T (kept_number p (number_by t v))
    pub is : number_ref p (number_by t v) ≡ v

  small-ref : (v : ℕ) → v < 31 → NumberRef v
  small-ref v b =
      let z : ℤ = uncode (v + 8388592) in
      let e : number_by t v ≡ z = rw (lt-ltb v 31 b) in
      let small : leb (nat_abs z) 15 ≡ true = le-leb (nat_abs z) 15 (omega (arith, uncode-size (v + 8388592))) in
      record {
        good = rw e (le→leb (nat_abs z) 8388607 (omega (arith, uncode-size (v + 8388592))));
        has = rw e (left_or (leb (nat_abs z) 15) (any (same_number z) p.numbers) (rw small tt));
        is = rw (e, small) (omega (arith, code-uncode (v + 8388592)));
      }

  large-ref : (v k : ℕ) → v ≡ 31 + k → k < cell t 5 → NumberRef v
  large-ref v k a b =
      let y : v - 31 ≡ k = omega (arith, a) in
      let z : ℤ = number_in t k in
      let e : number_by t v ≡ z = rw (le-ltb v 31 (omega (arith, a)), y) in
      let g = kept.numbers_good k b in
      let large : leb (nat_abs z) 15 ≡ false = lt-leb (nat_abs z) 15 (ltb→lt 15 (nat_abs z) (T-left (ltb 15 (nat_abs z)) (in_range z) g)) in
      let i : get_or p.numbers k (pos 0) ≡ z = number_at k b in
      let l : k < length p.numbers = omega (arith, b, number_count) in
      let own : ahead (same_number z) p.numbers ≡ k = ap (λ (x : ℤ). ahead (same_number x) p.numbers) (sym i) ∙ ahead_own same_number same_number-eq same_number-refl (pos 0) p.numbers kept.numbers_new k l in
      let there : T (any (same_number z) p.numbers) =
      any_at same_number same_number-eq same_number-refl (pos 0) (same_number z) p.numbers k l (subst (λ (x : ℤ). T (same_number z x)) (sym i) (same_number-refl z)) in
      record {
        good = rw e (T-right (ltb 15 (nat_abs z)) (in_range z) g);
        has = rw e (right_or (leb (nat_abs z) 15) (any (same_number z) p.numbers) there);
        is = rw (e, large, own) (sym a);
      }

  pub number-sound : (v : ℕ) → v < 31 + cell t 5 → NumberRef v
  number-sound v h = go (dec_lt v 31)
    where
      go : Dec (v < 31) → NumberRef v
      go (yes b) = small-ref v b
      go (no b) = large-ref v (v - 31) (omega arith) (omega (arith, h))

  few-numbers : (v : ℕ) (z : ℤ) → T (kept_number p z) → number_ref p z ≡ v → v < 31 + cell t 5
  few-numbers v z k e = go (leb (nat_abs z) 15) refl k e
    where
      go : (b : Bool) → leb (nat_abs z) 15 ≡ b → T (b || any (same_number z) p.numbers) → cond b (code z - 8388592) (31 + ahead (same_number z) p.numbers) ≡ v → v < 31 + cell t 5
      go true f k e = omega (arith, e, code-small z (leb-true (nat_abs z) 15 f))
      go false f k e = omega (arith, e, (found (same_number z) (pos 0) p.numbers k).1, number_count)

  pub number-complete : (v : ℕ) → NumberRef v → v < 31 + cell t 5
  number-complete v r = few-numbers v (number_by t v) r.has r.is
