-- Two neighbouring stretches of a row, exchanged by a rotation.
use mathlib.Core.Path.{◌≡◌, ap, sym, ◌∙◌}
use mathlib.Core.List.{List, ◌++◌, append_assoc}
use Prim.Native.Nat.{ℕ, ◌+◌, ◌-◌}
use native.Mathlib.Omega.{arith}
use lib.ListN.{length, take, drop, length-append, length-take, length-drop, take-append-drop}
use lib.Seq.{take-take, take_at, drop_at}
use Rattle.std.proofs.lemmas.List.{drop-take, drop-drop}
use Rattle.shortening.specs.Trying.{Exchangeable, exchanged}

-- a row of four stretches, and the three places between them
module _ (p x y z : List ℕ) {from middle to : ℕ} (a : length p ≡ from) (b : length p + length x ≡ middle) (c : length p + length x + length y ≡ to) where
  pub exchanged-parts : exchanged (p ++ (x ++ (y ++ z))) from middle to ≡ p ++ (y ++ (x ++ z))
  exchanged-parts =
      let w : p ++ (x ++ (y ++ z)) ≡ (p ++ x) ++ (y ++ z) = sym (append_assoc p x (y ++ z)) in
      let v : p ++ (x ++ (y ++ z)) ≡ ((p ++ x) ++ y) ++ z = w ∙ sym (append_assoc (p ++ x) y z) in
      let short : length (p ++ x) ≡ middle = length-append p x ∙ b in
      let long : length ((p ++ x) ++ y) ≡ to = length-append (p ++ x) y ∙ omega (arith, short, b, c) in
      let f : drop from (take middle (p ++ (x ++ (y ++ z)))) ≡ x = ap (drop from) (ap (take middle) w ∙ take_at (p ++ x) (y ++ z) middle short) ∙ drop_at p x from a in
      let g : drop middle (take to (p ++ (x ++ (y ++ z)))) ≡ y = ap (drop middle) (ap (take to) v ∙ take_at ((p ++ x) ++ y) z to long) ∙ drop_at (p ++ x) y middle short in
      let h : drop to (p ++ (x ++ (y ++ z))) ≡ z = ap (drop to) v ∙ drop_at ((p ++ x) ++ y) z to long in
      λ i. take_at p (x ++ (y ++ z)) from a i ++ (g i ++ (f i ++ h i))

module _ {d : List ℕ} {from middle to : ℕ} (h : Exchangeable d from middle to) where
  abbrev p : List ℕ
  p = take from d

  abbrev x : List ℕ
  x = drop from (take middle d)

  abbrev y : List ℕ
  y = drop middle (take to d)

  parted : d ≡ p ++ (x ++ (y ++ drop to d))
  parted =
      sym (take-append-drop to d)
      ∙ ap (λ (l : List ℕ). l ++ drop to d) (sym (take-append-drop middle (take to d)))
      ∙ ap (λ (l : List ℕ). (l ++ y) ++ drop to d) (take-take middle to d h.second ∙ sym (take-append-drop from (take middle d)))
      ∙ ap (λ (l : List ℕ). ((l ++ x) ++ y) ++ drop to d) (take-take from middle d h.first)
      ∙ append_assoc (p ++ x) y (drop to d)
      ∙ append_assoc p x (y ++ drop to d)

  long-p : length p ≡ from
  long-p = simp length-take (omega (arith, h.first, h.second, h.within))

  long-x : from + length x ≡ middle
  long-x = simp (length-drop, length-take) (omega (arith, h.first, h.second, h.within))

  long-y : middle + length y ≡ to
  long-y = simp (length-drop, length-take) (omega (arith, h.first, h.second, h.within))

  -- what a rotation of the bytes from `from` to `to` leaves
  pub rotated : {m : List ℕ} → m ≡ drop (middle - from) (take (to - from) (drop from d)) ++ take (middle - from) (take (to - from) (drop from d))
      → p ++ (m ++ drop (to - from) (drop from d)) ≡ exchanged d from middle to
  rotated {m} e =
      let i : from + (middle - from) ≡ middle = omega (arith, h.first) in
      let k : from + (to - from) ≡ to = omega (arith, h.first, h.second) in
      let f : take (to - from) (drop from d) ≡ drop from (take to d) = sym (drop-take from (to - from) d) ∙ ap (λ (n : ℕ). drop from (take n d)) k in
      let u : drop (middle - from) (take (to - from) (drop from d)) ≡ y =
      ap (drop (middle - from)) f ∙ drop-drop (middle - from) from (take to d) ∙ ap (λ (n : ℕ). drop n (take to d)) i in
      let v : take (middle - from) (take (to - from) (drop from d)) ≡ x =
      take-take (middle - from) (to - from) (drop from d) (omega (arith, h.first, h.second))
      ∙ sym (drop-take from (middle - from) d) ∙ ap (λ (n : ℕ). drop from (take n d)) i in
      let w : drop (to - from) (drop from d) ≡ drop to d = drop-drop (to - from) from d ∙ ap (λ (n : ℕ). drop n d) k in
      let g : m ≡ y ++ x = e ∙ (λ j. u j ++ v j) in
      (λ j. p ++ (g j ++ w j)) ∙ ap (λ (l : List ℕ). p ++ l) (append_assoc y x (drop to d))

  -- and back
  pub exchanged-back : {size : ℕ} → from + (to - middle) ≡ size → exchanged (exchanged d from middle to) from size to ≡ d
  exchanged-back {size} e =
      exchanged-parts p y x (drop to d) {middle = size} {to = to} long-p (omega (arith, long-p, long-y, h.second, e)) (omega (arith, long-p, long-x, long-y)) ∙ sym parted
