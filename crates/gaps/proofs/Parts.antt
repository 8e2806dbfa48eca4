-- A part of a list after a paste: before it, behind it, the paste itself, and with the paste at either end.
use mathlib.Core.Path.{◌≡◌, sym, ap, ◌∙◌}
use mathlib.Core.List.{List, [], ◌∷◌, ◌++◌, append_assoc}
use Prim.Native.Nat.{ℕ, zero, suc, ◌+◌, ◌-◌, ◌≤◌}
use native.Mathlib.Nat.{sub-zero, zero-sub, suc-sub-suc}
use native.Mathlib.Omega.{arith}
use lib.ListN.{length, take, drop, length-append, length-take, length-drop, take-append-drop}
use lib.Seq.{drop_at, drop-drop, take-append-le, drop-append-le, take-append-add, take_all, length-take-le, take-append_seam, take-nil}
use Rattle.cells.specs.Cells.{pasted}
use Rattle.cells.proofs.Laws.{drop_past}

pub drop-take : (n m : ℕ) (l : List ℕ) → drop n (take m l) ≡ take (m - n) (drop n l)
drop-take zero m l = rw sub-zero
drop-take (suc n) zero l = rw zero-sub
drop-take (suc n) (suc m) [] = sym (take-nil (suc m - suc n))
drop-take (suc n) (suc m) (x ∷ l) = rw (suc-sub-suc m n) (drop-take n m l)

-- a part that ends within the first of two lists
in_front : (x r : List ℕ) (a b : ℕ) → a ≤ b → b ≤ length x → take (b - a) (drop a (x ++ r)) ≡ take (b - a) (drop a x)
in_front x r a b h k =
    let l : a ≤ length x = omega arith in
    let m : b - a ≤ length (drop a x) = rw length-drop (omega arith) in
    rw (drop-append-le a x r l) (take-append-le (b - a) (drop a x) r m)

part-of-take : (p : List ℕ) (n a b : ℕ) → a ≤ b → b ≤ n → n ≤ length p → take (b - a) (drop a (take n p)) ≡ take (b - a) (drop a p)
part-of-take p n a b h k l =
    let f : b ≤ length (take n p) = rw (length-take-le n p l) k in
    sym (in_front (take n p) (drop n p) a b h f) ∙ ap (λ (x : List ℕ). take (b - a) (drop a x)) (take-append-drop n p)

-- a paste behind the part, and one before it
pub part-before : (p : List ℕ) (at : ℕ) (s : List ℕ) (a b : ℕ) → a ≤ b → b ≤ at → at ≤ length p → take (b - a) (drop a (pasted p at s)) ≡ take (b - a) (drop a p)
part-before p at s a b h k l =
    let f : b ≤ length (take at p) = rw (length-take-le at p l) k in
    in_front (take at p) (s ++ drop (at + length s) p) a b h f ∙ part-of-take p at a b h k l

pub part_behind : (p : List ℕ) (at : ℕ) (s : List ℕ) (a : ℕ) → at + length s ≤ a → at ≤ length p → drop a (pasted p at s) ≡ drop a p
part_behind p at s a h k =
    let j : ℕ = a - (at + length s) in
    let q : a ≡ (at + length s) + j = omega arith in
    let l : length (take at p ++ s) ≡ at + length s = simp (length-append, length-take) (omega arith) in
    let e : pasted p at s ≡ (take at p ++ s) ++ drop (at + length s) p = sym (append_assoc (take at p) s (drop (at + length s) p)) in
    rw (e, q) (drop_past (take at p ++ s) (drop (at + length s) p) (at + length s) j l ∙ drop-drop j (at + length s) p)

-- the paste itself
pub part-pasted : (p : List ℕ) (at : ℕ) (s : List ℕ) (b : ℕ) → at + length s ≡ b → at ≤ length p → take (b - at) (drop at (pasted p at s)) ≡ s
part-pasted p at s b h l =
    let q : b - at ≡ length s = omega arith in
    rw (q, drop_at (take at p) (s ++ drop (at + length s) p) at (length-take-le at p l)) (take-append_seam s (drop (at + length s) p))

-- a paste right before the part, with it
pub part-front : (p : List ℕ) (at : ℕ) (s : List ℕ) (a b : ℕ) → at + length s ≡ a → a ≤ b → at ≤ length p → take (b - at) (drop at (pasted p at s)) ≡ s ++ take (b - a) (drop a p)
part-front p at s a b h k l =
    let q : b - at ≡ length s + (b - a) = omega arith in
    rw (drop_at (take at p) (s ++ drop (at + length s) p) at (length-take-le at p l), q, take-append-add s (drop (at + length s) p) (b - a), h)

-- a paste right behind it
pub part-back : (p : List ℕ) (s : List ℕ) (a b : ℕ) → a ≤ b → b ≤ length p → take ((b + length s) - a) (drop a (pasted p b s)) ≡ take (b - a) (drop a p) ++ s
part-back p s a b h k =
    let D : List ℕ = drop a (take b p) in
    let Z : List ℕ = drop (b + length s) p in
    let lb : length (take b p) ≡ b = length-take-le b p k in
    let lD : length D ≡ b - a = rw (length-drop, lb) in
    let q : (b + length s) - a ≡ length D + length s = rw lD (omega arith) in
    let f : a ≤ length (take b p) = rw lb h in
    let g : length D ≤ b - a = omega arith in
    let d : D ≡ take (b - a) (drop a p) = sym (take_all (b - a) D g) ∙ part-of-take p b a b h (omega arith) k in
    let t : drop a (pasted p b s) ≡ D ++ (s ++ Z) = drop-append-le a (take b p) (s ++ Z) f in
    let u : take ((b + length s) - a) (D ++ (s ++ Z)) ≡ D ++ s = rw q (take-append-add D (s ++ Z) (length s) ∙ ap (λ (x : List ℕ). D ++ x) (take-append_seam s Z)) in
    rw t (u ∙ ap (λ (x : List ℕ). x ++ s) d)
