-- Strings laid out one after the other, and the loops that lay them out anew, copy them back and count them.
use mathlib.Core.Path.{◌≡◌, refl, sym, ap, ◌∙◌}
use mathlib.Core.List.{List}
use mathlib.Core.Logic.{◌⊎◌, inl, inr, ⊎_elim}
use Prim.Native.Nat.{ℕ, ◌+◌, ◌-◌, ◌*◌, ◌≤◌, ◌<◌}
use native.Mathlib.Omega.{arith}
use lib.ListN.{length, get_or, set, length-set}
use lib.Seq.{get_or-set_same, get_or-set_other}
use Rattle.std.proofs.lemmas.Bool.{cases_lt, cases_order}
use Rattle.cells.specs.Cells.{pasted}
use Rattle.cells.proofs.Laws.{length-pasted}
use Rattle.cells.specs.Below.Strings.{used}
use Rattle.cells.specs.Below.LayoutPlaces as layout
use Rattle.gaps.specs.Pool.{lo, hi, str, abs, string, offset, Ordered, Fine, Holds}
use Rattle.gaps.specs.Gaps.{LaidOne, Carriable, Carried, Extra, Settleable, Settled, Spreadable, Made}
use Rattle.gaps.proofs.Index.{offset-zero, offset-next, offset-within, offset-all}
use Rattle.gaps.proofs.Parts.{part-before, part-pasted}
use Rattle.gaps.proofs.Laws.{length-abs, string-is, string-part, hold, spanned, length-str, shaped, str-pasted}

-- two cells are set

record Two (e e' : List ℕ) (j x y : ℕ) : Type 0 where
  long : length e' ≡ length e
  below : (k : ℕ) → k < 2 * j → get_or e' k 0 ≡ get_or e k 0
  low : get_or e' (2 * j) 0 ≡ x
  high : get_or e' (2 * j + 1) 0 ≡ y
  above : (k : ℕ) → 2 * j + 2 ≤ k → get_or e' k 0 ≡ get_or e k 0

both : (e : List ℕ) (j x y : ℕ) → 2 * j + 1 < length e → Two e (set (set e (2 * j) x) (2 * j + 1) y) j x y
both e j x y b =
    let l : length (set e (2 * j) x) ≡ length e = length-set e (2 * j) x in
    let other : (k : ℕ) → (k ≡ 2 * j → ⊥) → (k ≡ 2 * j + 1 → ⊥) → get_or (set (set e (2 * j) x) (2 * j + 1) y) k 0 ≡ get_or e k 0 =
    λ k m n. get_or-set_other (set e (2 * j) x) (2 * j + 1) k y 0 n ∙ get_or-set_other e (2 * j) k x 0 m in
    record {
      long = length-set (set e (2 * j) x) (2 * j + 1) y ∙ l;
      below = λ k h. other k (λ q. omega arith) (λ q. omega arith);
      low = get_or-set_other (set e (2 * j) x) (2 * j + 1) (2 * j) y 0 (λ q. omega arith) ∙ get_or-set_same e (2 * j) x 0 (omega arith);
      high = get_or-set_same (set e (2 * j) x) (2 * j + 1) y 0 (rw l b);
      above = λ k h. other k (λ q. omega arith) (λ q. omega arith);
    }

which : (k j : ℕ) → k < 2 * (j + 1) → (k < 2 * j) ⊎ ((k ≡ 2 * j) ⊎ (k ≡ 2 * j + 1))
which k j h = ⊎_elim (λ x. inr (inl x)) (λ w. ⊎_elim (λ x. inl x) (λ x. inr (inr (omega arith))) w) (cases_order k (2 * j))

-- the first j strings of s are laid out, up to `at`
pub record Laid (p e : List ℕ) (j at : ℕ) (s : List (List ℕ)) : Type 0 where
  pub cells : length e ≡ layout.ends_count
  pub order : (a b : ℕ) → a ≤ b → b < 2 * j → get_or e a 0 ≤ get_or e b 0
  pub last : (b : ℕ) → b < 2 * j → get_or e b 0 ≤ at
  pub is : (k : ℕ) → k < j → str p e k ≡ string k s

pub laid_none : {p e : List ℕ} {s : List (List ℕ)} (at : ℕ) → length e ≡ layout.ends_count → Laid p e 0 at s
laid_none at l = record { cells = l; order = λ a b h k. absurd (none b k); last = λ b k. absurd (none b k); is = λ k h. absurd (none' k h) }
  where
    none : (b : ℕ) → b < 2 * 0 → ⊥
    none b k = omega arith

    none' : (b : ℕ) → b < 0 → ⊥
    none' b k = omega arith

-- one string more
module _ {p e p' e' b : List ℕ} {j at to : ℕ} {s : List (List ℕ)} (l : Laid p e j at s) (i : j < layout.strings_count) (le : at ≤ to) (in_p : to + length b ≤ length p)
    (is : b ≡ string j s) (o : LaidOne p e j to b p' e') where
  pair : Two e e' j to (to + length b)
  pair = rw o.ends (both e j to (to + length b) (omega (arith, l.cells)))

  laid-order : (x y : ℕ) → x ≤ y → y < 2 * (j + 1) → get_or e' x 0 ≤ get_or e' y 0
  laid-order x y h k =
      ⊎_elim
      (λ (u : y < 2 * j). let v : x < 2 * j = omega arith in rw (pair.below x v, pair.below y u) (l.order x y h u))
      (λ (w : (y ≡ 2 * j) ⊎ (y ≡ 2 * j + 1)). ⊎_elim
      (λ (u : y ≡ 2 * j). ⊎_elim
      (λ (v : x < 2 * j). rw (u, pair.below x v, pair.low) (omega (arith, l.last x v)))
      (λ (v : 2 * j ≤ x). let q : x ≡ 2 * j = omega arith in rw (q, u) (omega arith))
      (cases_lt x (2 * j)))
      (λ (u : y ≡ 2 * j + 1). ⊎_elim
      (λ (v : x < 2 * j). rw (u, pair.below x v, pair.high) (omega (arith, l.last x v)))
      (λ (z : (x ≡ 2 * j) ⊎ (x ≡ 2 * j + 1)). ⊎_elim
      (λ (v : x ≡ 2 * j). rw (u, v, pair.low, pair.high) (omega arith))
      (λ (v : x ≡ 2 * j + 1). rw (u, v) (omega arith))
      z)
      (which x j (omega arith)))
      w)
      (which y j k)

  laid-last : (x : ℕ) → x < 2 * (j + 1) → get_or e' x 0 ≤ to + length b
  laid-last x k =
      ⊎_elim
      (λ (u : x < 2 * j). rw (pair.below x u) (omega (arith, l.last x u)))
      (λ (w : (x ≡ 2 * j) ⊎ (x ≡ 2 * j + 1)). ⊎_elim
      (λ (u : x ≡ 2 * j). rw (u, pair.low) (omega arith))
      (λ (u : x ≡ 2 * j + 1). rw (u, pair.high) (omega arith))
      w)
      (which x j k)

  old-string : (k : ℕ) → k < j → str p' e' k ≡ str p e k
  unfolding str
  old-string k h =
      rw (pair.below (2 * k) (omega arith), pair.below (2 * k + 1) (omega arith), o.pool)
      (part-before p to b (lo e k) (hi e k) (l.order (2 * k) (2 * k + 1) (omega arith) (omega arith)) (omega (arith, l.last (2 * k + 1) (omega arith))) (omega arith))

  new-string : str p' e' j ≡ b
  unfolding str
  new-string = rw (pair.low, pair.high, o.pool) (part-pasted p to b (to + length b) refl (omega arith))

  pub laid_more : Laid p' e' (j + 1) (to + length b) s
  laid_more = record {
    cells = pair.long ∙ l.cells;
    order = laid-order;
    last = laid-last;
    is = λ k h. ⊎_elim (λ (u : k < j). old-string k u ∙ l.is k u) (λ (u : j ≤ k). let q : k ≡ j = omega arith in rw q (new-string ∙ is)) (cases_lt k j);
  }

  -- what is laid later, and what was laid before, is as it was
  laid_kept : (k : ℕ) → 2 * (j + 1) ≤ k → get_or e' k 0 ≡ get_or e k 0
  laid_kept k h = pair.above k (omega arith)

  laid-before : (k : ℕ) → k < 2 * j → get_or e' k 0 ≡ get_or e k 0
  laid-before k h = pair.below k h

  laid-low : get_or e' (2 * j) 0 ≡ to
  laid-low = pair.low

pub laid-all : {p e : List ℕ} {at : ℕ} {s : List (List ℕ)} → Laid p e layout.strings_count at s → at ≤ 65536 → length p ≡ 65536 → length s ≡ layout.strings_count → used s ≤ 32768 → Holds p e s
laid-all l h k n u =
    hold k (record { cells = l.cells; order = λ a b x y. l.order a b x (omega arith); last = λ b x. omega (arith, l.last b (omega arith)) }) n u (λ j x. l.is j x)

-- the loop that lays all strings of a pool out anew, in a second one

record Freed (e : List ℕ) (i n : ℕ) : Type 0 where
  first : n ≤ lo e i
  all : (k : ℕ) → k < 2 * i → get_or e k 0 + n ≤ lo e i

pub record Moving (p e₀ q₀ : List ℕ) (i n : ℕ) (e q : List ℕ) (at j : ℕ) : Type 0 where
  pub upto : j ≤ layout.strings_count
  pub long : length q ≡ length q₀
  pub cells : length e ≡ layout.ends_count
  pub laid : Laid q e j at (abs p e₀)
  pub kept : (k : ℕ) → 2 * j ≤ k → get_or e k 0 ≡ get_or e₀ k 0
  pub most : at ≤ 320 * j + offset j (abs p e₀) + n
  pub less : j ≤ i → at ≤ 320 * j + offset j (abs p e₀)
  freed : i < j → Freed e i n

pub moving-none : (p e₀ q₀ : List ℕ) (i n : ℕ) → length e₀ ≡ layout.ends_count → Moving p e₀ q₀ i n e₀ q₀ 0 0
moving-none p e₀ q₀ i n l = record {
  upto = omega arith;
  long = refl;
  cells = l;
  laid = laid_none 0 l;
  kept = λ k h. refl;
  most = omega arith;
  less = λ h. omega arith;
  freed = λ h. absurd (none h);
}
  where
    none : i < 0 → ⊥
    none h = omega arith

pub at-fits : {p e₀ q₀ e q : List ℕ} {i n at j sc : ℕ} → Spreadable p e₀ i n sc → Moving p e₀ q₀ i n e q at j → at ≤ 65536
at-fits {p} {e₀} {j = j} pre m = omega (arith, m.most, m.upto, offset-within (abs p e₀) j, pre.total)

module _ {p e₀ q₀ e q : List ℕ} {i n at j sc r : ℕ} (pre : Spreadable p e₀ i n sc) (m : Moving p e₀ q₀ i n e q at j) (h : j < layout.strings_count) (added : Extra j i n r)
    (sp : 65536 ≤ length q₀) where
  lo-is : lo e j ≡ lo e₀ j
  lo-is = m.kept (2 * j) (omega arith)

  hi-is : hi e j ≡ hi e₀ j
  hi-is = m.kept (2 * j + 1) (omega arith)

  str-is : str p e j ≡ string j (abs p e₀)
  unfolding str
  str-is = rw (lo-is, hi-is) (sym (string-part p e₀ j h))

  long_is : lo e j + length (string j (abs p e₀)) ≡ hi e j
  long_is = let s = shaped pre.fine h in omega (arith, lo-is, hi-is)

  -- where the next string goes, with what stands before it
  to-most : at + r ≤ 320 * j + offset j (abs p e₀) + n
  to-most = ⊎_elim
      (λ (x : j ≡ i). omega (arith, added.most, m.less (omega arith)))
      (λ w. let z : r ≡ 0 = added.else (λ x. ⊎_elim (λ y. omega arith) (λ y. omega arith) w) in omega (arith, m.most))
      (cases_order j i)

  to-less : j + 1 ≤ i → at + r ≤ 320 * j + offset j (abs p e₀)
  to-less x = let z : r ≡ 0 = added.else (λ y. omega arith) in omega (arith, m.less (omega arith))

  pub carriable : Carriable p e q j (at + 320 + r)
  carriable =
      let s = shaped pre.fine h in
      let f = offset-within (abs p e₀) j in
      record {
        index = h;
        cells = m.cells;
        ordered = omega (arith, long_is);
        most = omega (arith, hi-is, pre.fine.size);
        within = omega (arith, long_is, to-most, pre.total);
        size = omega (arith, m.long);
      }

  pub moving-more : {e' q' : List ℕ} {t : ℕ} → Carried p e q j (at + 320 + r) t q' e' → length q' ≡ length q → Moving p e₀ q₀ i n e' q' t (j + 1)
  moving-more {e'} {q'} {t} o lq =
      let S : List (List ℕ) = abs p e₀ in
      let b : List ℕ = str p e j in
      let c = carriable in
      let lb : length b ≡ hi e j - lo e j = ap length str-is ∙ omega (arith, long_is) in
      let tq : (at + 320 + r) + length b ≡ t = omega (arith, o.ends) in
      let in-q : (at + 320 + r) + length b ≤ length q = omega (arith, c.within, c.size) in
      let le : at ≤ at + 320 + r = omega arith in
      let next : offset (j + 1) S ≡ offset j S + length (string j S) = offset-next S j (rw (length-abs p e₀) h) in
      let more = laid_more m.laid h le in-q str-is o.laid in
      record {
        upto = omega arith;
        long = lq ∙ m.long;
        cells = more.cells;
        laid = rw tq at more;
        kept = λ k x. laid_kept m.laid h le in-q str-is o.laid k x ∙ m.kept k (omega arith);
        most = omega (arith, to-most, next, long_is);
        less = λ x. omega (arith, to-less x, next, long_is);
        freed = λ x. ⊎_elim
            (λ (y : i < j). let g = m.freed y in
            let c : lo e' i ≡ lo e i = laid-before m.laid h le in-q str-is o.laid (2 * i) (omega arith) in
            record { first = rw c g.first; all = λ k z. rw (c, laid-before m.laid h le in-q str-is o.laid k (omega arith)) (g.all k z) })
            (λ (y : j ≤ i). let u : i ≡ j = omega arith in
            let w : r ≡ n = added.here (omega arith) in
            let c : lo e' i ≡ at + 320 + r = rw u (laid-low m.laid h le in-q str-is o.laid) in
            record { first = rw c (omega arith); all = λ k z. rw (c, laid-before m.laid h le in-q str-is o.laid k (omega arith)) (omega (arith, m.laid.last k (omega arith))) })
            (cases_lt i j);
      }

-- its end: what was laid can be copied back, and was
module _ {p e₀ q₀ e q : List ℕ} {i n at j sc : ℕ} (pre : Spreadable p e₀ i n sc) (m : Moving p e₀ q₀ i n e q at j) (h : layout.strings_count ≤ j) (sp : 65536 ≤ length q₀) where
  at_end : j ≡ layout.strings_count
  at_end = omega (arith, m.upto)

  laid_end : Laid q e layout.strings_count at (abs p e₀)
  laid_end = rw at_end at m.laid

  all_start : offset j (abs p e₀) ≤ used (abs p e₀)
  all_start = omega (arith, offset-within (abs p e₀) j)

  top : at ≤ 65536
  top = at-fits pre m

  ordered-back : Ordered e
  ordered-back = record {
    cells = m.cells;
    order = λ a b x y. laid_end.order a b x (omega arith);
    last = λ b x. omega (arith, laid_end.last b (omega arith), top);
  }

  pub settleable : Settleable p e q
  settleable = record { ordered = ordered-back; size = pre.fine.size; spare = omega (arith, m.long) }

  pub moved : {p' : List ℕ} → Settled p' e q layout.strings_count → Made p' e (abs p e₀) i n
  moved s = record {
    holds = hold s.size ordered-back (length-abs p e₀) pre.fine.fits (λ k x. s.is k x ∙ laid_end.is k x);
    gap = ⊎_elim
        (λ (x : i < layout.strings_count). let g = m.freed (omega arith) in
        record {
          low = lo e i - n;
          high = lo e i;
          before = record { all = λ k z. omega (arith, g.all k z); most = omega (arith, ordered-back.last (2 * i) (omega arith)) };
          after = record { all = λ k y z. ordered-back.order (2 * i) k y z; most = ordered-back.last (2 * i) (omega arith) };
          room = omega (arith, g.first);
        })
        (λ (x : layout.strings_count ≤ i). record {
          low = at;
          high = 65536;
          before = record { all = λ k z. laid_end.last k (omega (arith, pre.index)); most = top };
          after = record { all = λ k y z. absurd (none k y z x); most = omega arith };
          room = omega (arith, m.less (omega (arith, m.upto)), at_end, all_start, pre.total);
        })
        (cases_lt i layout.strings_count);
  }
    where
      none : (k : ℕ) → 2 * i ≤ k → k < layout.ends_count → layout.strings_count ≤ i → ⊥
      none k a b c = omega arith

-- the loop that copies them back
pub settled-more : {p₀ p e q p' : List ℕ} {j : ℕ} → Settleable p₀ e q → Settled p e q j → j < layout.strings_count → p' ≡ pasted p (lo e j) (str q e j) → Settled p' e q (j + 1)
unfolding str
settled-more {p = p} {e} {q} {j = j} pre m h o =
    let b : List ℕ = str q e j in
    let f = spanned pre.ordered h in
    let long : lo e j + length b ≡ hi e j = length-str q e j f.ordered (omega (arith, f.most, pre.spare)) in
    let in_p : lo e j ≤ length p = omega (arith, f.ordered, f.most, m.size) in
    let before : (k : ℕ) → k < j → hi e k ≤ lo e j = λ k u. pre.ordered.order (2 * k + 1) (2 * j) (omega arith) (omega arith) in
    record {
      upto = omega arith;
      size = ap length o ∙ length-pasted p (lo e j) b (omega (arith, long, f.most, m.size)) ∙ m.size;
      is = λ k x. ⊎_elim
          (λ (u : k < j). rw o (str-pasted p e (lo e j) b k (spanned pre.ordered (omega arith)).ordered in_p (inl (before k u))) ∙ m.is k u)
          (λ (u : j ≤ k). let r : k ≡ j = omega arith in rw (r, o) (part-pasted p (lo e j) b (hi e j) long in_p))
          (cases_lt k j);
    }

-- the loop that counts them
pub record Counted (p e : List ℕ) (n j : ℕ) : Type 0 where
  pub upto : j ≤ layout.strings_count
  pub is : n ≡ offset j (abs p e)
  pub most : n ≤ 32768

pub counted_none : {p e : List ℕ} → Counted p e 0 0
counted_none {p} {e} = record { upto = omega arith; is = sym (offset-zero (abs p e)); most = omega arith }

pub counted_more : {p e b : List ℕ} {n j : ℕ} → Fine p e → Counted p e n j → j < layout.strings_count → b ≡ str p e j → Counted p e (n + length b) (j + 1)
counted_more {p} {e} {j = j} f c h q =
    let k = ap length (q ∙ sym (string-is p e j h)) in
    let next = offset-next (abs p e) j (rw (length-abs p e) h) in
    let w = offset-within (abs p e) j in
    record { upto = omega arith; is = omega (arith, c.is); most = omega (arith, c.is, f.fits) }

pub counted-all : {p e : List ℕ} {n j : ℕ} → Counted p e n j → layout.strings_count ≤ j → n ≡ used (abs p e)
counted-all {p} {e} {j = j} c h =
    let q : j ≡ layout.strings_count = omega (arith, c.upto) in
    c.is ∙ rw q (offset-all (abs p e) layout.strings_count (length-abs p e))
