-- Sound components: what the component in front says of them, and what they are.
use mathlib.Core.Path.{◌≡◌, refl, sym, ap, ◌∙◌, subst}
use mathlib.Core.Bool.{Bool, true, false, cond, ◌&&◌}
use mathlib.Core.List.{List, [], ◌∷◌, ◌++◌}
use Prim.Native.Nat.{ℕ, suc, ◌+◌, ◌*◌, ◌-◌, ◌≤◌, ◌<◌}
use native.Mathlib.Decide.{dec_lt}
use native.Mathlib.Omega.{arith}
use lib.Dec.{T, leb, eqb, leb→le, le→leb, eqb→eq}
use lib.ListN.{length, get_or, take, drop, take-append-drop, get_or-append, get_or-eq_default}
use lib.IntN.{pos, negsuc, nat_abs}
use lib.Seq.{get_or-take, get_or-drop, get_or-append-add, length-take-le}
use borrow.Author.Tests.{eqb-true, eqb-false, leb-true, leb-false, ne_eqb}
use Rattle.layout.specs.CodeLaws.{three-cells, uncode-most}
use Rattle.lists.specs.BoolLaws.{T-first, T-second, T-either, same_test}
use Rattle.characters.specs.Characters.{known}
use Rattle.components.proofs.Fronts.{code-uncode, size-long}
use Rattle.language.specs.Limits as limit
use Rattle.language.specs.Values.{Component}
use Rattle.language.specs.Values.Component.{word, address}
use Rattle.layout.specs.Bounds.{Each, Ok, WholeComponents}
use Rattle.layout.specs.Cells.{cell, three_at, uncode}
use Rattle.layout.specs.Components.{component_bytes, components_bytes, component_size, component_in, components_from, components_in}
use Rattle.layout.proofs.ComponentLaws.{components-front, next-component}
use Rattle.lists.specs.ListLaws.{T-left, T-right, T-both, same_bytes-eq, same_bytes-refl, all-total, none-fail}
use Rattle.lists.specs.Lists.{total, all, bytes_equal}
use Rattle.machine.specs.WellFormed.{void, strange, faults}
use Rattle.check_strings.specs.Sound.{Bytes, sound_components, sound_short, sound_front}

-- ---- tests and bytes

pub bytes-right : (a b : List ℕ) → Bytes (a ++ b) → Bytes b
bytes-right a b h j = subst (λ n. n < 256) (get_or-append-add a b j 0) (h (length a + j))

pub bytes_left : (a b : List ℕ) → Bytes (a ++ b) → Bytes a
bytes_left a b h j = go (dec_lt j (length a))
  where
    go : Dec (j < length a) → get_or a j 0 < 256
    go (yes l) = subst (λ n. n < 256) (get_or-append a b 0 j l) (h j)
    go (no l) = omega (arith, get_or-eq_default a 0 {n = j} (omega arith))

pub bytes_drop : (n : ℕ) (b : List ℕ) → Bytes b → Bytes (drop n b)
bytes_drop n b h j = rw (get_or-drop n b j 0) (h (n + j))

pub bytes_take : (n : ℕ) (b : List ℕ) → Bytes b → Bytes (take n b)
bytes_take n b h = bytes_left (take n b) (drop n b) (rw (take-append-drop n b) h)

-- ---- the component in front

pub record Front (l : ℕ) (b : List ℕ) : Type 0 where
  pub fits : component_size (cell b 0) ≤ length b
  pub first : take (component_size (cell b 0)) b ≡ component_bytes (component_in b)
  pub is_ok : Ok (component_in b)
  pub faultless : faults l (component_in b) ≡ 0

-- the cells of a number of three
uncode-within : (v : ℕ) → nat_abs (uncode v) ≤ 8388607 → v ≤ 16777214
unfolding uncode
uncode-within v = go (leb 8388607 v) refl
  where
    go : (b : Bool) → leb 8388607 v ≡ b → nat_abs (cond b (pos (v - 8388607)) (negsuc (8388606 - v))) ≤ 8388607 → v ≤ 16777214
    go true e h = let k = leb-true 8388607 v e in omega (arith, h)
    go false e h = let k = leb-false 8388607 v e in omega (arith, h)

module _ (l p q r : ℕ) (t : List ℕ) (a : p < 256) (b : q < 256) (c : r < 256) where
  abbrev v : ℕ
  v = p + 256 * q + 65536 * r

  front-number : v ≤ 16777214 → Front l (0 ∷ 1 ∷ p ∷ q ∷ r ∷ t)
  unfolding component_in component_bytes
  front-number h = record {
    fits = omega arith;
    first = rw (code-uncode v, three-cells p q r a b c);
    is_ok = uncode-most v h;
    faultless = omega (arith, uncode-most v h);
  }

  front-address : l ≤ limit.addresses → v ≤ l → Front l (0 ∷ 2 ∷ p ∷ q ∷ r ∷ t)
  unfolding component_in component_bytes
  front-address k h = record { fits = omega arith; first = rw (three-cells p q r a b c); is_ok = omega arith; faultless = omega arith }

front-short : (l : ℕ) (b : List ℕ) → l ≤ limit.addresses → Bytes b → cell b 0 ≡ 0 → 5 ≤ length b → T (sound_short l (cell b 1) (three_at 2 b)) → Front l b
front-short l [] k h e n s = absurd (omega (arith, n))
front-short l (x ∷ []) k h e n s = absurd (omega (arith, n))
front-short l (x ∷ y ∷ []) k h e n s = absurd (omega (arith, n))
front-short l (x ∷ y ∷ p ∷ []) k h e n s = absurd (omega (arith, n))
front-short l (x ∷ y ∷ p ∷ q ∷ []) k h e n s = absurd (omega (arith, n))
front-short l (x ∷ y ∷ p ∷ q ∷ r ∷ t) k h e n s =
    let w : ℕ = p + 256 * q + 65536 * r in
    let m : T (eqb y 1 && leb w 16777214) → Front l (x ∷ y ∷ p ∷ q ∷ r ∷ t) =
    λ s₁. rw (e, eqb→eq y 1 (T-left (eqb y 1) (leb w 16777214) s₁))
    (front-number l p q r t (h 2) (h 3) (h 4) (leb→le w 16777214 (T-right (eqb y 1) (leb w 16777214) s₁))) in
    let d : T (eqb y 2 && leb w l) → Front l (x ∷ y ∷ p ∷ q ∷ r ∷ t) =
    λ s₁. rw (e, eqb→eq y 2 (T-left (eqb y 2) (leb w l) s₁))
    (front-address l p q r t (h 2) (h 3) (h 4) k (leb→le w l (T-right (eqb y 2) (leb w l) s₁))) in
    T-either (eqb y 1 && leb w 16777214) (eqb y 2 && leb w l) s m d

known-faults : (w : List ℕ) → 0 < length w → T (all known w) → void w + total strange w ≡ 0
known-faults [] n h = absurd (omega (arith, n))
known-faults (x ∷ w) n h = omega (arith, none-fail known (x ∷ w) h)

faults-known : (w : List ℕ) → void w + total strange w ≡ 0 → T (all known w)
faults-known w h = let z : total strange w ≡ 0 = omega (arith, h) in subst T (sym (all-total known w)) (rw z tt)

front_by : (l : ℕ) (b : List ℕ) {n : ℕ} {x : Component} → component_size (cell b 0) ≡ n → component_in b ≡ x → n ≤ length b → take n b ≡ component_bytes x → Ok x → faults l x ≡ 0 → Front l b
front_by l b s i f t o g = record { fits = rw s f; first = rw (s, i) t; is_ok = rw i o; faultless = rw i g }

front-word : (l : ℕ) (b : List ℕ) → Bytes b → (cell b 0 ≡ 0 → ⊥) → 1 + cell b 0 ≤ length b → T (all known (take (cell b 0) (drop 1 b))) → Front l b
unfolding component_in component_bytes
front-word l [] h e n s = absurd (e refl)
front-word l (x ∷ b) h e n s =
    let w : List ℕ = take x b in
    let long : length w ≡ x = length-take-le x b (omega (arith, n)) in
    let some : 0 < x = omega arith in
    let i : component_in (x ∷ b) ≡ word w = rw (ne_eqb x 0 e) refl in
    front_by l (x ∷ b) {n = suc x} {x = word w} (size-long x e ∙ omega arith) i (omega (arith, n)) (ap (λ k. k ∷ w) (sym long)) (omega (arith, long), omega (arith, long, h 0)) (known-faults w (omega (arith, long)) s)

-- and what its cells show
pub front-open : (l : ℕ) (b : List ℕ) → l ≤ limit.addresses → Bytes b → T (sound_front l b) → Front l b
unfolding sound_front
front-open l b k h s =
    let a : Bool = leb (component_size (cell b 0)) (length b) in
    let c : Bool = cond (eqb (cell b 0) 0) (sound_short l (cell b 1) (three_at 2 b)) (all known (take (cell b 0) (drop 1 b))) in
    go (eqb (cell b 0) 0) refl (leb→le (component_size (cell b 0)) (length b) (T-left a c s)) (T-right a c s)
  where
    go : (c : Bool) → eqb (cell b 0) 0 ≡ c → cond c 5 (1 + cell b 0) ≤ length b
        → T (cond c (sound_short l (cell b 1) (three_at 2 b)) (all known (take (cell b 0) (drop 1 b)))) → Front l b
    go true e n t = front-short l b k h (eqb-true (cell b 0) 0 e) n t
    go false e n t = front-word l b h (eqb-false (cell b 0) 0 e) n t

abbrev short_one : List ℕ → Bool → Component
short_one b c = cond c (Component.number (uncode (three_at 2 b))) (address (three_at 2 b))

made-short : (b : List ℕ) (c : Bool) → cell b 0 ≡ 0 → eqb (cell b 1) 1 ≡ c → component_in b ≡ short_one b c
unfolding component_in
made-short b c e k = rw (e, k)

made_word : (b : List ℕ) → (cell b 0 ≡ 0 → ⊥) → component_in b ≡ word (take (cell b 0) (drop 1 b))
unfolding component_in
made_word b e = rw (ne_eqb (cell b 0) 0 e)

sound-shorts : (l : ℕ) (b : List ℕ) → cell b 0 ≡ 0 → Front l b → T (sound_short l (cell b 1) (three_at 2 b))
unfolding component_bytes
sound-shorts l b e f = go (eqb (cell b 1) 1) refl
  where
    w : ℕ
    w = three_at 2 b

    size : component_size (cell b 0) ≡ 5
    size = rw e refl

    of : (c : Bool) → eqb (cell b 1) 1 ≡ c → faults l (short_one b c) ≡ 0
    of c k = ap (faults l) (sym (made-short b c e k)) ∙ f.faultless

    first : (c : Bool) → eqb (cell b 1) 1 ≡ c → cell b 1 ≡ cell (component_bytes (short_one b c)) 1
    first c k = sym (get_or-take 5 b 1 0 (omega arith)) ∙ ap (λ n. cell (take n b) 1) (sym size) ∙ ap (λ (u : List ℕ). cell u 1) f.first ∙ ap (λ x. cell (component_bytes x) 1) (made-short b c e k)

    go : (c : Bool) → eqb (cell b 1) 1 ≡ c → T (sound_short l (cell b 1) w)
    go true k =
        let n : nat_abs (uncode w) ≤ 8388607 = omega (arith, of true k) in
        T-first (eqb (cell b 1) 1 && leb w 16777214) (eqb (cell b 1) 2 && leb w l) (T-both (eqb (cell b 1) 1) (leb w 16777214) (rw k tt) (le→leb w 16777214 (uncode-within w n)))
    go false k =
        let n : w ≤ l = omega (arith, of false k) in
        let q : cell b 1 ≡ 2 = first false k in
        T-second (eqb (cell b 1) 1 && leb w 16777214) (eqb (cell b 1) 2 && leb w l) (T-both (eqb (cell b 1) 2) (leb w l) (rw q tt) (le→leb w l n))

pub front-close : (l : ℕ) (b : List ℕ) → Front l b → T (sound_front l b)
unfolding sound_front
front-close l b f = T-both (leb (component_size (cell b 0)) (length b)) _ (le→leb _ _ f.fits) (go (eqb (cell b 0) 0) refl)
  where
    go : (c : Bool) → eqb (cell b 0) 0 ≡ c → T (cond c (sound_short l (cell b 1) (three_at 2 b)) (all known (take (cell b 0) (drop 1 b))))
    go true e = sound-shorts l b (eqb-true (cell b 0) 0 e) f
    go false e =
        let w : List ℕ = take (cell b 0) (drop 1 b) in
        faults-known w (ap (faults l) (sym (made_word b (eqb-false (cell b 0) 0 e))) ∙ f.faultless)

-- ---- all of them

pub record Parts (l : ℕ) (b : List ℕ) : Type 0 where
  pub cells : components_bytes (components_in b) ≡ b
  pub faultless : total (faults l) (components_in b) ≡ 0

pub parts-open : (l : ℕ) (b : List ℕ) → T (sound_components l b) → Parts l b
unfolding sound_components
parts-open l b h =
    let s : Bool = bytes_equal (components_bytes (components_in b)) b in
    let z : Bool = eqb (total (faults l) (components_in b)) 0 in
    record { cells = same_bytes-eq (components_bytes (components_in b)) b (T-left s z h); faultless = eqb→eq (total (faults l) (components_in b)) 0 (T-right s z h) }

pub parts-close : (l : ℕ) (b : List ℕ) → Parts l b → T (sound_components l b)
unfolding sound_components
parts-close l b p =
    T-both (bytes_equal (components_bytes (components_in b)) b) (eqb (total (faults l) (components_in b)) 0)
    (rw p.cells (same_bytes-refl b)) (rw p.faultless tt)

-- components without faults, in bytes, have a layout
component-ok : (l : ℕ) (x : Component) → l ≤ limit.addresses → Bytes (component_bytes x) → faults l x ≡ 0 → Ok x
unfolding component_bytes
component-ok l (word []) k h f = absurd (omega (arith, f))
component-ok l (word (c ∷ w)) k h f = (omega arith, omega (arith, h 0))
component-ok l (Component.number z) k h f = omega (arith, f)
component-ok l (address n) k h f = omega (arith, f)

pub oks-of : (l : ℕ) (xs : List Component) → l ≤ limit.addresses → Bytes (components_bytes xs) → total (faults l) xs ≡ 0 → Each Ok xs
unfolding components_bytes
oks-of l [] k h f = tt
oks-of l (x ∷ xs) k h f = (
  component-ok l x k (bytes_left (component_bytes x) (components_bytes xs) h) (omega (arith, f)),
  oks-of l xs k (bytes-right (component_bytes x) (components_bytes xs) h) (omega (arith, f)),
)

pub parts_whole : (l : ℕ) (b : List ℕ) → l ≤ limit.addresses → Bytes b → Parts l b → WholeComponents b
parts_whole l b k h p = record { is = sym p.cells; all_ok = oks-of l (components_in b) k (rw p.cells h) p.faultless }

-- the step of the walk
module _ (l : ℕ) (b : List ℕ) (k : l ≤ limit.addresses) (h : Bytes b) (m : 0 < length b) where
  abbrev rest : List ℕ
  rest = drop (component_size (cell b 0)) b

  apart : Parts l b → Front l b × Parts l rest
  apart p =
      let n = next-component (parts_whole l b k h p) m in
      let f = ap (total (faults l)) n.is in (
        record { fits = n.fits; first = n.first; is_ok = n.first_ok; faultless = omega (arith, f, p.faultless) },
        record { cells = sym n.rest.is; faultless = omega (arith, f, p.faultless) },
      )

  together : Front l b → Parts l rest → Parts l b
  unfolding components_bytes
  together f p =
      let x : Component = component_in b in
      let e : component_bytes x ++ rest ≡ b = rw (← f.first) (take-append-drop (component_size (cell b 0)) b) in
      let i : components_in b ≡ x ∷ components_in rest = ap components_in (sym e) ∙ components-front x rest f.is_ok in
      record { cells = ap components_bytes i ∙ rw p.cells e; faultless = ap (total (faults l)) i ∙ omega (arith, f.faultless, p.faultless) }

  pub components-walk : sound_components l b ≡ sound_front l b && sound_components l rest
  components-walk =
      let c : Bool = sound_front l b in
      let d : Bool = sound_components l rest in
      let to : T (sound_components l b) → T (c && d) =
      λ s. let q = apart (parts-open l b s) in T-both c d (front-close l b q.0) (parts-close l rest q.1) in
      let from : T (c && d) → T (sound_components l b) =
      λ s. parts-close l b (together (front-open l b k h (T-left c d s)) (parts-open l rest (T-right c d s))) in
      same_test (sound_components l b) (c && d) to from

pub components-end : (l : ℕ) (b : List ℕ) → length b ≡ 0 → sound_components l b ≡ true
unfolding sound_components components_in components_from components_bytes
components-end l [] h = refl
components-end l (x ∷ b) h = absurd (omega (arith, h))
