-- What the loops that write components have written so far.
use mathlib.Core.Path.{◌≡◌, refl, ap, ◌∙◌}
use mathlib.Core.List.{List, [], ◌∷◌, ◌++◌, map, append_assoc, append-nil, reverse, reverse_aux}
use Prim.Native.Nat.{ℕ, ◌+◌, ◌*◌, ◌≤◌, ◌<◌}
use native.Mathlib.Numerals.{add-one}
use native.Mathlib.Omega.{arith}
use lib.ListN.{length, get_or, take, drop, set, length-append, drop_of_length-le}
use lib.Seq.{length-take-le, drop_at, drop-cons, set_split}
use Rattle.cells.proofs.Laws.{length-pasted, pasted-pasted, set-two}
use Rattle.cells.specs.Cells.{pasted}
use Rattle.cells.specs.Below.LanguageValues.{Component}
use Rattle.cells.specs.Below.LayoutBounds.{WholeComponents}
use Rattle.cells.specs.Below.Components.{component_bytes, components_bytes, component_in, components_in}
use Rattle.cells.specs.Below.Lists.{joined}
use Rattle.cells.specs.Below.MachineArguments.{char}
use Rattle.components.specs.Parts.{Front, Written}
use Rattle.components.proofs.Walks.{none_left, bytes_there, cells-long}

-- ---- the components in reverse order, written from the end to the front

pub record Turning (d₀ l d left : List ℕ) : Type 0 where
  pub gone : List Component
  pub long : length d ≡ length d₀
  pub rest : WholeComponents left
  pub turned : reverse (components_in l) ≡ reverse_aux (components_in left) gone
  pub bytes_is : length (components_bytes gone) + length left ≡ length l
  pub is : drop (length left) d ≡ components_bytes gone ++ drop (length l) d₀

pub turning-none : (d l : List ℕ) → WholeComponents l → Turning d l d l
unfolding components_bytes
turning-none d l w = record { gone = []; long = refl; rest = w; turned = refl; bytes_is = omega arith; is = refl }

module _ {d₀ l d left : List ℕ} (t : Turning d₀ l d left) (m : length l ≤ length d₀) where
  pub turning-room : {x r : List ℕ} → Front left x r → length r + length x ≤ length d
  turning-room f = omega (arith, cells-long f, t.bytes_is, t.long)

  pub turning-next : {x r d' : List ℕ} → Front left x r → length d' ≡ length d → d' ≡ pasted d (length r) x → Turning d₀ l d' r
  unfolding components_bytes
  turning-next {x} {r} {d'} f k q =
      let p : length r + length x ≡ length left = omega (arith, cells-long f) in
      let a : length (take (length r) d) ≡ length r = length-take-le (length r) d (omega (arith, turning-room f)) in
      let g : drop (length r) d' ≡ x ++ drop (length left) d = rw (q, drop_at (take (length r) d) (x ++ drop (length r + length x) d) (length r) a, p) in
      record {
        gone = component_in left ∷ t.gone;
        long = k ∙ t.long;
        rest = f.rest;
        turned = t.turned ∙ rw f.is refl;
        bytes_is = simp length-append (omega (arith, bytes_there f, t.bytes_is, cells-long f));
        is = g ∙ rw (t.is, f.one.is, append_assoc);
      }

  pub turning-all : left ≡ [] → d ≡ pasted d₀ 0 (components_bytes (reverse (components_in l)))
  turning-all e =
      let g : reverse (components_in l) ≡ t.gone = t.turned ∙ rw (none_left e) refl in
      let z : length left ≡ 0 = ap length e in
      let n : 0 + length (components_bytes t.gone) ≡ length l = omega (arith, t.bytes_is, z) in
      rw z at t.is ∙ rw (g, n) refl

-- ---- a list written piece by piece

pub record Writing (d₀ whole left d : List ℕ) (n : ℕ) : Type 0 where
  pub gone : List ℕ
  pub whole_is : whole ≡ gone ++ left
  pub is : d ≡ pasted d₀ 0 gone
  pub count : n ≡ length gone
  pub long : length d ≡ length d₀

module _ {d₀ whole left d : List ℕ} {n : ℕ} (w : Writing d₀ whole left d n) (h : length whole ≤ length d₀) where
  -- a piece v is written next
  module _ (v rest : List ℕ) (e : left ≡ v ++ rest) where
    pub writing-room : n + length v ≤ length d
    writing-room = omega (arith, simp length-append at (ap length w.whole_is), simp length-append at (ap length e), w.count, w.long)

    pub writing-next : {d' : List ℕ} → d' ≡ pasted d n v → Writing d₀ whole rest d' (n + length v)
    writing-next {d'} q =
        let g : List ℕ = w.gone in
        let at : n ≡ 0 + length g = omega (arith, w.count) in
        let room : 0 + (length g + length v) ≤ length d₀ = omega (arith, writing-room, w.count, w.long) in
        record {
          gone = g ++ v;
          whole_is = w.whole_is ∙ rw (e, append_assoc);
          is = q ∙ rw (w.is, at) (pasted-pasted d₀ 0 g v room);
          count = simp length-append (omega (arith, w.count));
          long = ap length q ∙ length-pasted d n v writing-room ∙ w.long;
        }

  pub writing-all : left ≡ [] → Written d₀ whole d n
  writing-all e =
      let g : whole ≡ w.gone = w.whole_is ∙ rw e (append-nil w.gone) in
      record { is = rw g w.is; count = rw g w.count; fits = omega (arith, ap length g, w.count) }

-- ---- what f makes of a string's components

pub record Gathering (f : Component → List ℕ) (d₀ l d : List ℕ) (n : ℕ) (left : List ℕ) : Type 0 where
  pub rest : WholeComponents left
  pub written : Writing d₀ (joined (map f (components_in l))) (joined (map f (components_in left))) d n

module _ {f : Component → List ℕ} {d₀ l d : List ℕ} {n : ℕ} {left : List ℕ} (g : Gathering f d₀ l d n left) (h : length (joined (map f (components_in l))) ≤ length d₀) where
  module _ {x r : List ℕ} (s : Front left x r) where
    abbrev behind : List ℕ
    behind = joined (map f (components_in r))

    next-is : joined (map f (components_in left)) ≡ f (component_in left) ++ behind
    next-is = rw s.is

    pub gathering-room : n + length (f (component_in left)) ≤ length d
    gathering-room = writing-room g.written h (f (component_in left)) behind next-is

    pub gathering-next : {w d' : List ℕ} → w ≡ f (component_in left) → d' ≡ pasted d n w → Gathering f d₀ l d' (n + length w) r
    gathering-next {w} {d'} c q = record { rest = s.rest; written = rw c (writing-next g.written h (f (component_in left)) behind next-is (rw c at q)) }

  pub gathering-all : left ≡ [] → Written d₀ (joined (map f (components_in l))) d n
  gathering-all e = writing-all g.written h (rw (none_left e))

-- ---- a word for each character

pub record Splitting (d₀ w d : List ℕ) (i : ℕ) : Type 0 where
  pub within : i ≤ length w
  pub written : Writing d₀ (components_bytes (map char w)) (components_bytes (map char (drop i w))) d (2 * i)

split-long : (w : List ℕ) → length (components_bytes (map char w)) ≡ 2 * length w
unfolding components_bytes component_bytes
split-long [] = refl
split-long (x ∷ w) = omega (arith, split-long w)

module _ {d₀ w d : List ℕ} {i : ℕ} (s : Splitting d₀ w d i) (h : 2 * length w ≤ length d₀) where
  room : length (components_bytes (map char w)) ≤ length d₀
  room = omega (arith, split-long w)

  pub splitting-next : i < length w → {d' : List ℕ} → d' ≡ set (set d (2 * i) 1) (2 * i + 1) (get_or w i 0) → Splitting d₀ w d' (i + 1)
  unfolding components_bytes component_bytes
  splitting-next k {d'} q =
      let c : ℕ = get_or w i 0 in
      let pair : List ℕ = 1 ∷ c ∷ [] in
      let e : components_bytes (map char (drop i w)) ≡ pair ++ components_bytes (map char (drop (i + 1) w)) = rw (drop-cons w i 0 k, add-one) in
      let f : d' ≡ pasted d (2 * i) pair = q ∙ set-two d (2 * i) 1 c (omega (arith, s.written.long)) in
      let n : 2 * i + 2 ≡ 2 * (i + 1) = omega arith in
      record { within = omega arith; written = rw n at (writing-next s.written room pair (components_bytes (map char (drop (i + 1) w))) e f) }

  pub splitting-all : length w ≤ i → Written d₀ (components_bytes (map char w)) d (2 * i)
  unfolding components_bytes
  splitting-all k = writing-all s.written room (rw (drop_of_length-le w k))

-- ---- a cell or two, and a run behind them

pub behind-one : (d : List ℕ) (at x : ℕ) (s : List ℕ) → at + 1 + length s ≤ length d → pasted (set d at x) (at + 1) s ≡ pasted d at (x ∷ s)
behind-one d at x s h =
    let one : set d at x ≡ pasted d at (x ∷ []) = set_split d at x (omega arith) ∙ rw add-one in
    rw one (pasted-pasted d at (x ∷ []) s (omega arith))

-- ---- what a caller finds
