-- Where a string lies in a state at rest.
use mathlib.Core.Path.{◌≡◌, refl, sym, ap, ◌∙◌}
use mathlib.Core.List.{List, [], ◌∷◌}
use Prim.Native.Nat.{ℕ, ◌+◌, ◌-◌, ◌*◌, ◌≤◌, ◌<◌}
use native.Mathlib.Omega.{arith}
use lib.ListN.{length, take, drop, get_or}
use lib.Seq.{get_or-drop, drop-drop}
use Rattle.std.proofs.lemmas.List.{drop-take}
use Rattle.language.specs.Limits as limit
use Rattle.layout.proofs.CellLaws.{each_at}
use Rattle.layout.specs.Cells.{two_at, three_at}
use Rattle.layout.specs.Memory.{strings, state_cells, threes_in, state_of}
use Rattle.layout.proofs.MemoryLaws.{string-output, strings_in-cells}
use Rattle.layout.proofs.StringLaws.{length-strings_in}
use Rattle.layout.specs.Strings.{strings_in}
use Rattle.layout.specs.Places as layout
use Rattle.cells.specs.Cells.{Number}
use Rattle.gaps.specs.Pool.{string, offset}
use Rattle.gaps.proofs.Index.{offset-zero, offset-next, offset-within}
use Rattle.packing.proofs.Reading.{packed-long, length-read, string-read}
use Rattle.resting.proofs.Laws.{scalars-are, unpackable}
use Rattle.viewing.specs.Viewing.{Rests, Stringed, Shows}

-- the loop over the strings before the one that is looked for
pub record Passing (m : List ℕ) (i from j : ℕ) : Type 0 where
  pub upto : j ≤ i
  pub is : from ≡ layout.lengths_bytes + offset j (strings_in m)

pub passing-none : (m : List ℕ) (i : ℕ) → Passing m i layout.lengths_bytes 0
passing-none m i = record { upto = omega arith; is = omega (arith, offset-zero (strings_in m)) }

-- the numbers of a turn, and of the end
pub record Turn (m : List ℕ) (from j n : ℕ) : Type 0 where
  pub is : n ≡ length (string j (strings_in m))
  pub within : from + n ≤ layout.strings_bytes
  pub long : length m ≡ layout.strings_bytes

module _ {m : List ℕ} {i from j n : ℕ} (pre : Stringed m i) (u : Passing m i from j) (r : Number (two_at (2 * j) m) 65536 n) where
  pub turn : j < layout.strings_count → Turn m from j n
  turn h =
      let q : n ≡ length (string j (strings_in m)) = r.is ∙ length-read pre.packed j h in
      record { is = q; within = omega (arith, u.is, pre.packed.fits, offset-within (strings_in m) j); long = packed-long pre.packed }

  pub passing-more : j < i → Passing m i (from + n) (j + 1)
  passing-more h =
      let t = turn (omega (arith, pre.below)) in
      let b : j < length (strings_in m) = rw (length-strings_in m) (omega (arith, pre.below)) in
      record { upto = omega arith; is = omega (arith, u.is, t.is, offset-next (strings_in m) j b) }

module _ {m : List ℕ} {i from j n : ℕ} (pre : Stringed m i) (u : Passing m i from j) (e : i ≤ j) (r : Number (two_at (2 * i) m) 65536 n) where
  here : Passing m i from i
  here = record { upto = omega arith; is = let z : j ≡ i = omega (arith, u.upto) in u.is ∙ ap (λ (k : ℕ). layout.lengths_bytes + offset k (strings_in m)) z }

  pub last_turn : Turn m from i n
  last_turn = turn pre here r pre.below

  pub string-told : take ((from + n) - from) (drop from m) ≡ string i (strings_in m)
  string-told =
      let z : (from + n) - from ≡ n = omega arith in
      ap (λ (k : ℕ). take k (drop from m)) z ∙ string-read pre.packed i n from pre.below here.is last_turn.is

-- ---- the state

-- the fourth number of three cells
threes-three : (m : List ℕ) → threes_in layout.scalars_count m ≡ three_at 0 m ∷ three_at 3 m ∷ three_at 6 m ∷ three_at 9 m ∷ threes_in 4 (drop 12 m)
unfolding threes_in
threes-three m = simp (get_or-drop, drop-drop) refl

module _ {m : List ℕ} (pre : Rests m) where
  pub outputs-lie : {l : List ℕ} {i : ℕ} → l ≡ take layout.strings_bytes (drop layout.first_length m) → i < layout.strings_count → Stringed l i
  outputs-lie q h = record { packed = unpackable pre q; below = h }

  -- the part behind the scalars
  behind : take layout.strings_bytes (drop layout.first_length m) ≡ drop layout.first_length (state_cells (state_of m))
  behind = sym (drop-take layout.first_length layout.strings_bytes m) ∙ ap (drop layout.first_length) (sym pre.cells)

  pub output-shown : {l r : List ℕ} → l ≡ take layout.strings_bytes (drop layout.first_length m) → r ≡ string layout.first_output (strings_in l) → Shows m r
  output-shown {l} {r} q e =
      let s = state_of m in
      let all : strings_in l ≡ strings s = ap strings_in (q ∙ behind) ∙ strings_in-cells s pre.fine in
      let is : r ≡ get_or s.store.outputs 0 [] = e ∙ ap (string layout.first_output) all ∙ string-output s pre.fine 0 in
      record { is = is; most = rw is (each_at (λ w. length w ≤ limit.output) [] (omega arith) s.store.outputs pre.fine.outputs_ok 0) }

  pub next-told : {r : ℕ} → Number (three_at 9 m) 16777216 r → Number (state_of m).next 16777216 r
  unfolding threes_in
  next-told h =
      let e : three_at 9 m ≡ (state_of m).next = sym (ap (λ (l : List ℕ). get_or l 3 0) (threes-three m)) ∙ ap (λ (l : List ℕ). get_or l 3 0) (scalars-are pre) in
      record { is = h.is ∙ e; most = h.most }
