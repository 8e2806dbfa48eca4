-- The word of a mark, cut out of a text that may end before it.
use mathlib.Core.Path.{◌≡◌, sym, ap, ◌∙◌}
use mathlib.Core.List.{List, []}
use Prim.Native.Nat.{ℕ, ◌+◌, ◌-◌, ◌<◌, min}
use native.Mathlib.Decide.{dec_lt}
use native.Mathlib.Omega.{arith}
use lib.ListN.{length, take, drop, length-drop, drop_of_length-le}
use lib.Seq.{take_all, take-nil}
use Rattle.drafts.specs.Marks.{place_by, length_by, word_by}

cut : (s : List ℕ) (at len a b : ℕ) → a ≡ min (length s) at → b ≡ min (length s) (at + len) → take (b - a) (drop a s) ≡ take len (drop at s)
cut s at len a b e f = go (dec_lt at (length s)) (dec_lt (length s) (at + len))
  where
    go : Dec (at < length s) → Dec (length s < at + len) → take (b - a) (drop a s) ≡ take len (drop at s)
    go (no h) u =
        let x : drop a s ≡ [] = drop_of_length-le s {i = a} (omega (arith, e)) in
        let y : drop at s ≡ [] = drop_of_length-le s {i = at} (omega arith) in
        ap (take (b - a)) x ∙ take-nil (b - a) ∙ sym (ap (take len) y ∙ take-nil len)
    go (yes h) (yes u) =
        let z : a ≡ at = omega (arith, e) in
        let n : length (drop at s) ≡ length s - at = length-drop at s in
        ap (λ (k : ℕ). take (b - a) (drop k s)) z ∙ take_all (b - a) (drop at s) (omega (arith, n, e, f)) ∙ sym (take_all len (drop at s) (omega (arith, n)))
    go (yes h) (no u) =
        let z : a ≡ at = omega (arith, e) in
        let w : b - a ≡ len = omega (arith, e, f) in
        λ j. take (w j) (drop (z j) s)

pub word_cut : (s : List ℕ) (m a b : ℕ) → a ≡ min (length s) (place_by m) → b ≡ min (length s) (place_by m + length_by m) → take (b - a) (drop a s) ≡ word_by s m
unfolding word_by
word_cut s m a b e f = cut s (place_by m) (length_by m) a b e f
