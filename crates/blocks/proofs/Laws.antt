-- The laws of written blocks: characters four to a cell by their index, and cells set one after the other.
use mathlib.Core.Path.{◌≡◌, refl, sym, ◌∙◌}
use mathlib.Core.List.{List, [], ◌∷◌}
use Prim.Native.Nat.{ℕ, zero, suc, ◌+◌, ◌*◌, ◌≤◌, ◌<◌}
use native.Mathlib.Nat.{not-suc-le-zero, le_of_suc-le-suc}
use native.Mathlib.Omega.{arith}
use lib.ListN.{length, get_or, set, drop}
use lib.Seq.{paste, drop-drop, set_split}
use Rattle.cells.proofs.Laws.{put-turn, pasted-pasted}
use Rattle.cells.specs.Cells.{pasted}
use Rattle.cells.proofs.Below.LayoutCellLaws.{length-fours}
use Rattle.cells.specs.Below.LayoutCells.{four, fours}

-- cell q of the characters of w
pub fours-at : (n : ℕ) (w : List ℕ) (q : ℕ) → q < n → get_or (fours n w) q 0 ≡ four (drop (4 * q) w)
unfolding fours
fours-at zero w q h = absurd (not-suc-le-zero h)
fours-at (suc n) w zero h = refl
fours-at (suc n) w (suc q) h =
    let e : 4 * suc q ≡ 4 + 4 * q = omega arith in
    fours-at n (drop 4 w) q (le_of_suc-le-suc h) ∙ rw (e, drop-drop)

-- one cell set is a run of one
pub set-one : (d : List ℕ) (at x : ℕ) → at < length d → set d at x ≡ pasted d at (x ∷ [])
set-one d at x h = let e : at + 1 ≡ suc at = omega arith in rw e (set_split d at x h)

pub set_then : (d : List ℕ) (at x : ℕ) (s : List ℕ) → at + (1 + length s) ≤ length d → pasted (set d at x) (at + 1) s ≡ pasted d at (x ∷ s)
set_then d at x s h = rw (set-one d at x (omega arith)) (pasted-pasted d at (x ∷ []) s h)

-- one turn of the loop that writes characters, from what the invariant says of t, and after the cell x was set
pub chars-turn : (t d : List ℕ) (at : ℕ) (w : List ℕ) (q x : ℕ) (u : List ℕ) → t ≡ paste d at (fours 15 w) q → at + 15 ≤ length d → q < 15 → x ≡ four (drop (4 * q) w)
    → u ≡ set t (at + q) x → u ≡ paste d at (fours 15 w) (q + 1)
chars-turn t d at w q x u e h k f g =
    let l : length (fours 15 w) ≡ 15 = length-fours 15 w in
    let v : x ≡ get_or (fours 15 w) q 0 = f ∙ sym (fours-at 15 w q k) in
    g ∙ rw v (put-turn t d at (fours 15 w) q e (omega arith) (omega arith))

-- a head set, and a run written behind it
pub set-and-paste : (d : List ℕ) (at x : ℕ) (s d₁ d₂ : List ℕ) → at + (1 + length s) ≤ length d → d₁ ≡ set d at x → d₂ ≡ pasted d₁ (at + 1) s → d₂ ≡ pasted d at (x ∷ s)
set-and-paste d at x s d₁ d₂ h e f = f ∙ rw e (set_then d at x s h)
