-- The laws of copied runs: one turn of a loop that copies, runs behind one another, and numbers in cells.
use mathlib.Core.Path.{◌≡◌, sym, ◌∙◌}
use mathlib.Core.List.{List, [], ◌∷◌, ◌++◌, append_assoc, append-nil}
use Prim.Native.Nat.{ℕ, ◌+◌, ◌≤◌, ◌<◌}
use native.Mathlib.Numerals.{add-one}
use native.Mathlib.Omega.{arith}
use lib.ListN.{length, take, drop, get_or, set, replicate, length-append, length-take, length-drop, length-replicate, drop_of_length-le, take-append-drop}
use lib.Seq.{paste, paste-suc, take-length, take_at, drop-drop, drop-append-add, sets-eq}
use Rattle.cells.specs.Cells.{pasted, cleared}

-- one turn of the loop that copies, from what the invariant says of dst, and its end
pub put-turn : (dst d : List ℕ) (at : ℕ) (s : List ℕ) (j : ℕ) → dst ≡ paste d at s j → at + length s ≤ length d → j < length s → set dst (at + j) (get_or s j 0) ≡ paste d at s (j + 1)
put-turn dst d at s j e h k = rw (e, add-one) (paste-suc d at s j 0 (omega arith) k)

pub put-end : (dst d : List ℕ) (at : ℕ) (s : List ℕ) (j : ℕ) → dst ≡ paste d at s j → j ≤ length s → length s ≤ j → dst ≡ pasted d at s
put-end dst d at s j e h k =
    let q : j ≡ length s = omega arith in
    e ∙ rw (q, take-length, append_assoc)

pub length-pasted : (d : List ℕ) (at : ℕ) (s : List ℕ) → at + length s ≤ length d → length (pasted d at s) ≡ length d
length-pasted d at s h = simp (length-append, length-take, length-drop) (omega arith)

pub cleared-is : (d : List ℕ) (at n : ℕ) → cleared d at n ≡ pasted d at (replicate n 0)
cleared-is d at n = rw length-replicate

-- nothing, a second run behind the first, and one that fills the whole
pub pasted-none : (d : List ℕ) (at : ℕ) → d ≡ pasted d at []
pasted-none d at = let q : at + 0 ≡ at = omega arith in rw q (sym (take-append-drop at d))

pub drop_past : {A : Type 0} (p q : List A) (n k : ℕ) → length p ≡ n → drop (n + k) (p ++ q) ≡ drop k q
drop_past p q n k e = rw (← e) (drop-append-add p q k)

pub pasted-pasted : (d : List ℕ) (at : ℕ) (s t : List ℕ) → at + (length s + length t) ≤ length d → pasted (pasted d at s) (at + length s) t ≡ pasted d at (s ++ t)
pasted-pasted d at s t h =
    let l : length (take at d ++ s) ≡ at + length s = simp (length-append, length-take) (omega arith) in
    let e : pasted d at s ≡ (take at d ++ s) ++ drop (at + length s) d = sym (append_assoc (take at d) s (drop (at + length s) d)) in
    let q : at + length s + length t ≡ at + length (s ++ t) = simp length-append (omega arith) in
    rw (e, take_at (take at d ++ s) (drop (at + length s) d) (at + length s) l)
    (rw (drop_past (take at d ++ s) (drop (at + length s) d) (at + length s) (length t) l, drop-drop, q) (simp append_assoc))

pub pasted-whole : (d x : List ℕ) → length x ≡ length d → pasted d 0 x ≡ x
pasted-whole d x l =
    let q : length d ≤ 0 + length x = omega arith in
    rw (drop_of_length-le d q) (append-nil x)

-- a run at the front, read again
pub pasted-front : (d x : List ℕ) (n : ℕ) → length x ≡ n → take n (pasted d 0 x) ≡ x
pasted-front d x n l = take_at x (drop (0 + length x) d) n l

-- cells set one after the other
pub set-two : (d : List ℕ) (at x y : ℕ) → at + 2 ≤ length d → set (set d at x) (at + 1) y ≡ pasted d at (x ∷ y ∷ [])
set-two d at x y h = rw add-one (sets-eq (x ∷ y ∷ []) d at h ∙ append_assoc (take at d) (x ∷ y ∷ []) (drop (at + 2) d))
