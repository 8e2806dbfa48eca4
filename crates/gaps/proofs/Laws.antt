-- The laws of the pool: the strings that it holds, and what a change of one string leaves. `changed` is the law that every edit rests on.
use mathlib.Core.Path.{◌≡◌, refl, sym, ap, ◌∙◌}
use mathlib.Core.List.{List, [], ◌++◌}
use mathlib.Core.Logic.{◌⊎◌, inl, inr, ⊎_elim}
use Prim.Native.Nat.{ℕ, ◌+◌, ◌-◌, ◌*◌, ◌≤◌, ◌<◌}
use native.Mathlib.Omega.{arith}
use lib.ListN.{length, take, drop, get_or, set, length-append, length-take, length-drop, length-set}
use lib.Seq.{get_or-set_same, get_or-set_other}
use Rattle.std.proofs.lemmas.Bool.{cases_order}
use Rattle.cells.specs.Cells.{pasted}
use Rattle.cells.proofs.Laws.{length-pasted}
use Rattle.cells.proofs.Below.LayoutCellLaws.{length-tab, get_d-tab, tab-ext}
use Rattle.cells.specs.Below.Strings.{used}
use Rattle.cells.specs.Below.LayoutPlaces as layout
use Rattle.gaps.specs.Pool.{lo, hi, str, abs, string, Ordered, Fine, Holds}
use Rattle.gaps.specs.Gaps.{GapStart, GapEnd, Gap, pushed_front, pushed_back, Made}
use Rattle.gaps.proofs.Index.{used-set}
use Rattle.gaps.proofs.Parts.{part-before, part_behind, part-front, part-back}

-- the strings

pub length-abs : (p e : List ℕ) → length (abs p e) ≡ layout.strings_count
unfolding abs
length-abs p e = length-tab layout.strings_count (λ (i : ℕ). str p e i)

pub string-is : (p e : List ℕ) (i : ℕ) → i < layout.strings_count → string i (abs p e) ≡ str p e i
unfolding abs
string-is p e i h = get_d-tab layout.strings_count (λ (k : ℕ). str p e k) i [] h

pub string-part : (p e : List ℕ) (i : ℕ) → i < layout.strings_count → string i (abs p e) ≡ take (hi e i - lo e i) (drop (lo e i) p)
unfolding str
string-part p e i b = string-is p e i b

pub hold : {p e : List ℕ} {s : List (List ℕ)} → length p ≡ 65536 → Ordered e → length s ≡ layout.strings_count → used s ≤ 32768 → ((j : ℕ) → j < layout.strings_count → str p e j ≡ string j s) → Holds p e s
unfolding abs
hold {p} {e} {s} z o l u h =
    let q : abs p e ≡ s = rw l at (tab-ext [] s (λ (i : ℕ). str p e i) (λ i b. h i (rw l at b))) in
    record { fine = record { size = z; ordered = o; fits = rw q u }; is = q; fits = u }

-- the three laws of `Holds`: what it holds, that it is fine, and a second step f, stated of what the pool held, stated of s
pub abs-of : {p e : List ℕ} {s : List (List ℕ)} → Holds p e s → abs p e ≡ s
abs-of h = h.is

pub good : {p e : List ℕ} {s : List (List ℕ)} → Holds p e s → Fine p e
good h = h.fine

pub after : {p e p' e' : List ℕ} {s : List (List ℕ)} → Holds p e s → (f : List (List ℕ) → List (List ℕ)) → Holds p' e' (f (abs p e)) → Holds p' e' (f s)
after h f k = rw h.is at k

pub fine-holds : {p e : List ℕ} → Fine p e → Holds p e (abs p e)
fine-holds f = record { fine = f; is = refl; fits = f.fits }

pub count : {p e : List ℕ} {s : List (List ℕ)} → Holds p e s → length s ≡ layout.strings_count
count {p} {e} h = sym (ap length h.is) ∙ length-abs p e

-- where string i lies, and how long it is
pub record Span (e : List ℕ) (i : ℕ) : Type 0 where
  pub ordered : lo e i ≤ hi e i
  pub most : hi e i ≤ 65536

pub spanned : {e : List ℕ} {i : ℕ} → Ordered e → i < layout.strings_count → Span e i
spanned {i = i} o b = record { ordered = o.order (2 * i) (2 * i + 1) (omega arith) (omega arith); most = o.last (2 * i + 1) (omega arith) }

pub length-str : (p e : List ℕ) (i : ℕ) → lo e i ≤ hi e i → hi e i ≤ length p → lo e i + length (str p e i) ≡ hi e i
unfolding str
length-str p e i h k = rw (length-take, length-drop) (omega arith)

pub length-lent : (p e : List ℕ) (i : ℕ) {b : List ℕ} → lo e i ≤ hi e i → hi e i ≤ length p → b ≡ str p e i → lo e i + length b ≡ hi e i
length-lent p e i h k q = rw q (length-str p e i h k)

pub record Shape (p e : List ℕ) (i : ℕ) : Type 0 where
  pub ordered : lo e i ≤ hi e i
  pub most : hi e i ≤ 65536
  pub long : lo e i + length (string i (abs p e)) ≡ hi e i

pub shaped : {p e : List ℕ} {i : ℕ} → Fine p e → i < layout.strings_count → Shape p e i
shaped {p} {e} {i} f b =
    let s = spanned f.ordered b in
    record { ordered = s.ordered; most = s.most; long = rw (string-is p e i b) (length-str p e i s.ordered (omega (arith, s.most, f.size))) }

-- THE LAW OF ONE STRING: where every other string's part is what it was, the strings are those with one replaced
pub changed : (p e : List ℕ) {p' e' : List ℕ} (i : ℕ) (v : List ℕ) → length p' ≡ 65536 → Ordered e' → i < layout.strings_count → used (abs p e) + length v ≤ 32768 + length (string i (abs p e)) → str p' e' i ≡ v
    → ((j : ℕ) → j < layout.strings_count → (j ≡ i → ⊥) → str p' e' j ≡ str p e j) → Holds p' e' (set (abs p e) i v)
changed p e {p'} {e'} i v z o b u h k =
    let b' : i < length (abs p e) = rw (length-abs p e) b in
    hold z o (length-set (abs p e) i v ∙ length-abs p e) (omega (arith, used-set (abs p e) i v b'))
    (λ j c. ⊎_elim
    (λ (q : j ≡ i). rw q (h ∙ sym (get_or-set_same (abs p e) i v [] b')))
    (λ w. let n : (j ≡ i → ⊥) = λ q. ⊎_elim (λ k. omega arith) (λ k. omega arith) w in k j c n ∙ sym (string-is p e j c) ∙ sym (get_or-set_other (abs p e) i j v [] n))
    (cases_order j i))

-- one cell is set

pub ordered-set : {e : List ℕ} (c v : ℕ) → Ordered e → c < layout.ends_count → v ≤ 65536 → ((k : ℕ) → k < c → get_or e k 0 ≤ v) → ((k : ℕ) → c < k → k < layout.ends_count → v ≤ get_or e k 0) → Ordered (set e c v)
ordered-set {e} c v f b m below above =
    let same : get_or (set e c v) c 0 ≡ v = get_or-set_same e c v 0 (rw f.cells b) in
    let less : (k : ℕ) → k < c → get_or (set e c v) k 0 ≡ get_or e k 0 = λ k h. get_or-set_other e c k v 0 (λ q. omega arith) in
    let more : (k : ℕ) → c < k → get_or (set e c v) k 0 ≡ get_or e k 0 = λ k h. get_or-set_other e c k v 0 (λ q. omega arith) in
    record {
      cells = length-set e c v ∙ f.cells;
      order = λ j k h u. ⊎_elim
          (λ (q : j ≡ c). ⊎_elim
          (λ (r : k ≡ c). rw (q, r) (omega arith))
          (λ w. ⊎_elim (λ (x : k < c). absurd (no-order j k c h q x)) (λ (x : c < k). rw (q, same, more k x) (above k x u)) w)
          (cases_order k c))
          (λ w. ⊎_elim
          (λ (x : j < c). ⊎_elim
          (λ (r : k ≡ c). rw (r, same, less j x) (below j x))
          (λ z. ⊎_elim (λ (y : k < c). rw (less j x, less k y) (f.order j k h u)) (λ (y : c < k). rw (less j x, more k y) (f.order j k h u)) z)
          (cases_order k c))
          (λ (x : c < j). let y : c < k = omega arith in rw (more j x, more k y) (f.order j k h u))
          w)
          (cases_order j c);
      last = λ k u. ⊎_elim
          (λ (q : k ≡ c). rw (q, same) m)
          (λ w. ⊎_elim (λ (x : k < c). rw (less k x) (f.last k u)) (λ (x : c < k). rw (more k x) (f.last k u)) w)
          (cases_order k c);
    }
  where
    no-order : (j k c : ℕ) → j ≤ k → j ≡ c → k < c → ⊥
    no-order j k c h q x = omega arith

-- the other strings' cells are not touched
pub str-other : (p e : List ℕ) (c v i j : ℕ) → ((2 * i ≡ c) ⊎ (2 * i + 1 ≡ c)) → (j ≡ i → ⊥) → str p (set e c v) j ≡ str p e j
unfolding str
str-other p e c v i j w n =
    let a : get_or (set e c v) (2 * j) 0 ≡ get_or e (2 * j) 0 = get_or-set_other e c (2 * j) v 0 (λ q. ⊎_elim (λ x. n (omega arith)) (λ x. omega arith) w) in
    let b : get_or (set e c v) (2 * j + 1) 0 ≡ get_or e (2 * j + 1) 0 = get_or-set_other e c (2 * j + 1) v 0 (λ q. ⊎_elim (λ x. omega arith) (λ x. n (omega arith)) w) in
    rw (a, b)

-- string i, where only its start, or only its end, is set
pub str-lo : (p e : List ℕ) (i v : ℕ) → 2 * i < length e → str p (set e (2 * i) v) i ≡ take (hi e i - v) (drop v p)
unfolding str
str-lo p e i v b =
    let q : get_or (set e (2 * i) v) (2 * i + 1) 0 ≡ hi e i = get_or-set_other e (2 * i) (2 * i + 1) v 0 (λ q. omega arith) in
    rw (q, get_or-set_same e (2 * i) v 0 b)

pub str-hi : (p e : List ℕ) (i v : ℕ) → 2 * i + 1 < length e → str p (set e (2 * i + 1) v) i ≡ take (v - lo e i) (drop (lo e i) p)
unfolding str
str-hi p e i v b =
    let q : get_or (set e (2 * i + 1) v) (2 * i) 0 ≡ lo e i = get_or-set_other e (2 * i + 1) (2 * i) v 0 (λ q. omega arith) in
    rw (q, get_or-set_same e (2 * i + 1) v 0 b)

-- a paste outside string j
pub str-pasted : (p e : List ℕ) (at : ℕ) (s : List ℕ) (j : ℕ) → lo e j ≤ hi e j → at ≤ length p → ((hi e j ≤ at) ⊎ (at + length s ≤ lo e j)) → str (pasted p at s) e j ≡ str p e j
unfolding str
str-pasted p e at s j h l w =
    ⊎_elim (λ x. part-before p at s (lo e j) (hi e j) h x l) (λ x. rw (part_behind p at s (lo e j) x l)) w

-- bytes are put at string i

module _ {p e : List ℕ} {i : ℕ} (f : Fine p e) (b : i < layout.strings_count) where
  pub low-cell : 2 * i < length e
  low-cell = rw f.ordered.cells (omega arith)

  pub high-cell : 2 * i + 1 < length e
  high-cell = rw f.ordered.cells (omega arith)

  -- string j lies on one side of string i
  side : (j : ℕ) → j < layout.strings_count → (j ≡ i → ⊥) → (j < i) ⊎ (i < j)
  side j c n = ⊎_elim (λ q. absurd (n q)) (λ w. w) (cases_order j i)

  pub front-pushed : (s : List ℕ) → Gap e i (length s) → used (abs p e) + length s ≤ 32768 → Holds (pasted p (lo e i - length s) s) (set e (2 * i) (lo e i - length s)) (pushed_front i s (abs p e))
  unfolding pushed_front
  front-pushed s gap u =
      let sh = shaped f b in
      let at : ℕ = lo e i - length s in
      let P : List ℕ = pasted p at s in
      let up : gap.high ≤ lo e i = gap.after.all (2 * i) (omega arith) (omega arith) in
      let in_p : at ≤ length p = omega (arith, f.size, gap.room) in
      let len : length P ≡ length p = length-pasted p at s (omega (arith, f.size, gap.room)) in
      let g : Ordered (set e (2 * i) at) =
      ordered-set (2 * i) at f.ordered (omega arith) (omega arith)
      (λ k h. omega (arith, gap.before.all k h, gap.room))
      (λ k h u. omega (arith, f.ordered.order (2 * i) k (omega arith) u)) in
      let q : at + length s ≡ lo e i = omega (arith, gap.room) in
      changed p e i _ (len ∙ f.size) g b (simp length-append (omega arith))
      (str-lo P e i at low-cell ∙ part-front p at s (lo e i) (hi e i) q (omega arith) in_p ∙ ap (λ (x : List ℕ). s ++ x) (sym (string-part p e i b)))
      (λ j c n. str-other P e (2 * i) at i j (inl refl) n
      ∙ str-pasted p e at s j (shaped f c).ordered in_p
      (⊎_elim (λ (x : j < i). inl (omega (arith, gap.before.all (2 * j + 1) (omega arith), gap.room)))
      (λ (x : i < j). inr (omega (arith, q, f.ordered.order (2 * i) (2 * j) (omega arith) (omega arith))))
      (side j c n)))

  pub back-pushed : (s : List ℕ) → Gap e (i + 1) (length s) → used (abs p e) + length s ≤ 32768 → Holds (pasted p (hi e i) s) (set e (2 * i + 1) (hi e i + length s)) (pushed_back i s (abs p e))
  unfolding pushed_back
  back-pushed s gap u =
      let sh = shaped f b in
      let at : ℕ = hi e i in
      let P : List ℕ = pasted p at s in
      let lower : hi e i ≤ gap.low = gap.before.all (2 * i + 1) (omega arith) in
      let in_p : at ≤ length p = omega (arith, f.size) in
      let len : length P ≡ length p = length-pasted p at s (omega (arith, f.size, gap.room, gap.after.most)) in
      let g : Ordered (set e (2 * i + 1) (at + length s)) =
      ordered-set (2 * i + 1) (at + length s) f.ordered (omega arith) (omega (arith, gap.room, gap.after.most))
      (λ k h. omega (arith, f.ordered.order k (2 * i + 1) (omega arith) (omega arith)))
      (λ k h u. omega (arith, gap.after.all k (omega arith) u, gap.room)) in
      changed p e i _ (len ∙ f.size) g b (simp length-append (omega arith))
      (str-hi P e i (at + length s) high-cell ∙ part-back p s (lo e i) (hi e i) sh.ordered in_p ∙ ap (λ (x : List ℕ). x ++ s) (sym (string-part p e i b)))
      (λ j c n. str-other P e (2 * i + 1) (at + length s) i j (inr refl) n
      ∙ str-pasted p e at s j (shaped f c).ordered in_p
      (⊎_elim (λ (x : j < i). inl (omega (arith, f.ordered.order (2 * j + 1) (2 * i + 1) (omega arith) (omega arith))))
      (λ (x : i < j). inr (omega (arith, gap.after.all (2 * j) (omega arith) (omega arith), gap.room)))
      (side j c n)))

  pub front-room : {n : ℕ} → Gap e i n → n ≤ lo e i
  front-room gap = omega (arith, gap.after.all (2 * i) (omega arith) (omega arith), gap.room)

  pub back-room : {n : ℕ} → Gap e (i + 1) n → hi e i + n ≤ 65536
  back-room gap = omega (arith, gap.before.all (2 * i + 1) (omega arith), gap.room, gap.after.most)

-- there was room already, and room for more than is wanted
pub same-made : {p e : List ℕ} {i n x y : ℕ} → Fine p e → GapStart e i x → GapEnd e i y → x + n ≤ y → Made p e (abs p e) i n
same-made {x = x} {y = y} f b a r = record { holds = fine-holds f; gap = record { low = x; high = y; before = b; after = a; room = r } }

pub less-made : {p e : List ℕ} {s : List (List ℕ)} {i n m : ℕ} → Made p e s i m → n ≤ m → Made p e s i n
less-made m h = record { holds = m.holds; gap = record { low = m.gap.low; high = m.gap.high; before = m.gap.before; after = m.gap.after; room = omega (arith, m.gap.room) } }
