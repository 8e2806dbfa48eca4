-- What the code finds of the component or the record in front, and the turns of the two walks.
use mathlib.Core.Path.{◌≡◌, refl, sym, ◌∙◌, subst}
use mathlib.Core.Bool.{Bool, true, false, cond, ◌&&◌}
use mathlib.Core.List.{List}
use Rattle.std.specs.Bool.{then_some}
use Rattle.std.specs.Option.{IfSome}
use Rattle.std.specs.Prelude.{Option, Some, None}
use Prim.Native.Nat.{ℕ, ◌+◌, ◌-◌, ◌≤◌, ◌<◌}
use native.Mathlib.Omega.{arith}
use lib.Dec.{leb, ltb, eqb}
use lib.ListN.{length, take, drop, length-drop}
use lib.Seq.{take_all}
use borrow.Author.Tests.{le-leb, lt-leb, eq-eqb, ne_eqb, leb-true}
use Rattle.std.proofs.lemmas.Bool.{and_parts}
use Rattle.lists.specs.BoolLaws.{some-if}
use Rattle.cells.specs.Cells.{Number}
use Rattle.characters.specs.Characters.{known}
use Rattle.components.proofs.Fronts.{size-long, size-most}
use Rattle.language.specs.Limits as limit
use Rattle.layout.specs.Cells.{cell, two_at, three_at}
use Rattle.layout.specs.Components.{component_size}
use Rattle.lists.specs.Lists.{all}
use Rattle.check_strings.specs.Sound.{Bytes, sound_components, sound_short, sound_front, FrontSize, given, sound_records, framed, sound_record, RecordSize}
use Rattle.check_strings.proofs.ComponentWalks.{bytes_drop, bytes_take, components-walk}
use Rattle.check_strings.proofs.RecordWalks.{records-walk}

-- a size that is told where t says so
then-most : (t : Bool) (n m : ℕ) → n ≤ m → IfSome (then_some t n) (λ i. i ≤ m)
then-most true n m h = h
then-most false n m h = tt

-- ---- the component in front

pub front-none : {l n : ℕ} {b : List ℕ} → Number (component_size (cell b 0)) 257 n → length b < n → FrontSize l b None
unfolding sound_front
front-none {l} {n} {b} q h =
    let e : leb (component_size (cell b 0)) (length b) ≡ false = lt-leb (component_size (cell b 0)) (length b) (omega (arith, q.is)) in
    record { is = rw e refl; most = tt }

module _ (b : List ℕ) {n : ℕ} (q : Number (component_size (cell b 0)) 257 n) (h : n ≤ length b) where
  fitting : leb (component_size (cell b 0)) (length b) ≡ true
  fitting = le-leb (component_size (cell b 0)) (length b) (omega (arith, q.is))

  front-sized : {l : ℕ} {r : Option ℕ} (t : Bool) → sound_front l b ≡ t → r ≡ then_some t n → FrontSize l b r
  front-sized {l} {r} t e k = record { is = k ∙ some-if t n ∙ rw (e, q.is) refl; most = rw k (then-most t n (length b) h) }

  pub front-shown : {l : ℕ} {r : Option ℕ} → cell b 0 ≡ 0 → {v : ℕ} → Number (three_at 2 b) 16777216 v → {t : Bool} → t ≡ sound_short l (cell b 1) v → r ≡ then_some t n → FrontSize l b r
  unfolding sound_front
  front-shown {l} {r} z {v} w {t} e k = front-sized t (rw (fitting, eq-eqb (cell b 0) 0 z, e, w.is) refl) k

  pub front-spelled : {l : ℕ} {r : Option ℕ} → (cell b 0 ≡ 0 → ⊥) → {t : Bool} → t ≡ all known (take (n - 1) (drop 1 b)) → r ≡ then_some t n → FrontSize l b r
  unfolding sound_front
  front-spelled {l} {r} z {t} e k =
      let c : n - 1 ≡ cell b 0 = omega (arith, q.is, size-long (cell b 0) z) in
      front-sized t (rw (fitting, ne_eqb (cell b 0) 0 z, e, c) refl) k

-- ---- the record in front

pub framed-fits : (b : List ℕ) {t : Bool} → t ≡ framed b → t ≡ true → 7 + two_at 3 b ≤ length b
framed-fits b e h = leb-true (7 + two_at 3 b) (length b) (and_parts (leb (7 + two_at 3 b) (length b)) (eqb (two_at (5 + two_at 3 b) b) (two_at 3 b)) (sym e ∙ h)).0

pub record-none : {l : ℕ} {b : List ℕ} {t : Bool} → t ≡ framed b → t ≡ false → RecordSize l b None
unfolding sound_record
record-none {l} {b} e h = let f : framed b ≡ false = sym e ∙ h in record { is = rw f refl; most = tt }

module _ {l n a : ℕ} {r : Option ℕ} {b : List ℕ} (f : framed b ≡ true) (q : Number (two_at 3 b) 65536 n) (s : Number (three_at 0 b) 16777216 a) (h : 7 + n ≤ length b) where
  pub record-shown : {g t : Bool} → g ≡ given l a → t ≡ sound_components l (take (5 + n - 5) (drop 5 b)) → r ≡ then_some (ltb 0 n && g && t) (5 + n + 2) → RecordSize l b r
  unfolding sound_record
  record-shown {g} {t} x y k =
      let c : 5 + n - 5 ≡ two_at 3 b = omega (arith, q.is) in
      let e : sound_record l b ≡ ltb 0 n && g && t = rw (f, q.is, x, s.is, y, c) refl in
      let d : 5 + n + 2 ≡ 7 + two_at 3 b = omega (arith, q.is) in
      record { is = k ∙ some-if (ltb 0 n && g && t) (5 + n + 2) ∙ rw (e, d) refl; most = rw k (then-most (ltb 0 n && g && t) (5 + n + 2) (length b) (omega arith)) }

-- ---- a turn of a walk over b, what is left of the cells

-- the size k is told where t says so; where none is, the cells are not sound; else those behind it decide
told-none : (t : Bool) (k : ℕ) {r : Option ℕ} → r ≡ cond t (Some k) None → r ≡ None → t ≡ false
told-none true k q z = cc
told-none false k q z = refl

told-some : (t : Bool) (k n : ℕ) {r : Option ℕ} → r ≡ cond t (Some k) None → r ≡ Some n → (t ≡ true) × (n ≡ k)
told-some true k n q z = (refl, cc)
told-some false k n q z = cc

fits : {m n : ℕ} {r : Option ℕ} → IfSome r (λ i. i ≤ m) → r ≡ Some n → n ≤ m
fits {m} {n} {r} h e = subst (λ o. IfSome o (λ i. i ≤ m)) e h

-- the part behind n cells, as the code lends it
module _ (b : List ℕ) {n : ℕ} (f : n ≤ length b) where
  lent_is : take (length b - n) (drop n b) ≡ drop n b
  lent_is = take_all (length b - n) (drop n b) (rw (length-drop n b) (omega arith))

  pub bytes-lent : Bytes b → Bytes (take (length b - n) (drop n b))
  bytes-lent h = bytes_take (length b - n) (drop n b) (bytes_drop n b h)

module _ {l : ℕ} {b : List ℕ} (k : l ≤ limit.addresses) (h : Bytes b) (m : 0 < length b) where
  module _ {r : Option ℕ} (q : FrontSize l b r) where
    pub components-fault : r ≡ None → false ≡ sound_components l b
    components-fault z = sym (components-walk l b k h m ∙ rw (told-none (sound_front l b) (component_size (cell b 0)) q.is z) refl)

    module _ {n : ℕ} (e : r ≡ Some n) where
      pub front_fits : (0 < n) × (n ≤ length b)
      front_fits = (omega (arith, (told-some (sound_front l b) (component_size (cell b 0)) n q.is e).1, size-most (cell b 0)), fits q.most e)

      pub components-next : sound_components l b ≡ sound_components l (take (length b - n) (drop n b))
      components-next =
          let t = told-some (sound_front l b) (component_size (cell b 0)) n q.is e in
          components-walk l b k h m ∙ rw (lent_is b front_fits.1, t.0, t.1) refl

  module _ {r : Option ℕ} (q : RecordSize l b r) where
    pub records-fault : r ≡ None → false ≡ sound_records l b
    records-fault z = sym (records-walk l b k h m ∙ rw (told-none (sound_record l b) (7 + two_at 3 b) q.is z) refl)

    module _ {n : ℕ} (e : r ≡ Some n) where
      pub record_fits : (0 < n) × (n ≤ length b)
      record_fits = (omega (arith, (told-some (sound_record l b) (7 + two_at 3 b) n q.is e).1), fits q.most e)

      pub records-next : sound_records l b ≡ sound_records l (take (length b - n) (drop n b))
      records-next =
          let t = told-some (sound_record l b) (7 + two_at 3 b) n q.is e in
          records-walk l b k h m ∙ rw (lent_is b record_fits.1, t.0, t.1) refl
