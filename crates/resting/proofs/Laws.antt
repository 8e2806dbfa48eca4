-- Scalars cell by cell, and a state as its scalars and strings.
use mathlib.Core.Path.{◌≡◌, refl, ap, sym, ◌∙◌}
use mathlib.Core.Bool.{Bool, true, false, cond}
use mathlib.Core.List.{List, [], ◌∷◌, ◌++◌, append_assoc}
use Prim.Native.Nat.{ℕ, zero, suc, ◌+◌, ◌*◌, ◌≤◌, ◌<◌}
use native.Mathlib.Nat.{le_of_suc-le-suc, not-suc-le-zero}
use native.Mathlib.Numerals.{add-one}
use native.Mathlib.Omega.{arith}
use lib.ListN.{length, get_or, take, drop, set, take-append-drop, length-set}
use lib.Seq.{take-suc-set, take-length, length-take-le, get_or-drop, drop-drop, take_at, drop_at}
use Rattle.language.specs.Limits as limit
use Rattle.lists.specs.Lists.{each}
use Rattle.layout.specs.Cells.{three, three_at}
use Rattle.layout.proofs.CellLaws.{length-each}
use Rattle.language.specs.Values.{State}
use Rattle.layout.proofs.FineLaws.{fine-room}
use Rattle.layout.specs.Memory.{scalars, strings, state_cells, threes_in, state_of, written}
use Rattle.layout.proofs.MemoryLaws.{threes-back, length-strings}
use Rattle.layout.specs.Strings.{string_cells, strings_in}
use Rattle.layout.proofs.StringLaws.{length-string_cells, strings-back}
use Rattle.layout.specs.Places as layout
use Rattle.cells.specs.Cells.{pasted}
use Rattle.packing.specs.Packing.{Packed}
use Rattle.state.proofs.Standing.{numbers-long, number_most}
use Rattle.state.specs.Working.{Lies}
use Rattle.resting.specs.Resting.{Openable, ScalarsReadable, Numbers}

three-later : (j : ℕ) (m : List ℕ) → three_at j (drop 3 m) ≡ three_at (3 + j) m
three-later j m =
    let p : 3 + (1 + j) ≡ 1 + (3 + j) = omega arith in
    let q : 3 + (2 + j) ≡ 2 + (3 + j) = omega arith in
    rw (get_or-drop 3 m j 0, get_or-drop 3 m (1 + j) 0, get_or-drop 3 m (2 + j) 0, p, q) refl

threes-next : (k : ℕ) (m : List ℕ) → threes_in (suc k) m ≡ threes_in k m ++ (three_at (3 * k) m ∷ [])
unfolding threes_in
threes-next zero m = refl
threes-next (suc k) m =
    let e : 3 + 3 * k ≡ 3 * suc k = omega arith in
    ap (λ (l : List ℕ). three_at 0 m ∷ l) (threes-next k (drop 3 m) ∙ ap (λ (x : ℕ). threes_in k (drop 3 m) ++ (x ∷ [])) (three-later (3 * k) m ∙ ap (λ (i : ℕ). three_at i m) e))

-- the loop that reads the scalars
pub record Reading (m n : List ℕ) (k : ℕ) : Type 0 where
  pub upto : k ≤ 8
  pub long : length n ≡ 8
  pub is : take k n ≡ threes_in k m

pub reading-none : (m n : List ℕ) → length n ≡ 8 → Reading m n 0
unfolding threes_in
reading-none m n h = record { upto = omega arith; long = h; is = refl }

pub reading-more : {m n n' : List ℕ} {k x : ℕ} → Reading m n k → k < 8 → x ≡ three_at (3 * k) m → n' ≡ set n k x → Reading m n' (k + 1)
reading-more {m} {n} {k = k} {x = x} u h e q =
    record {
      upto = omega arith;
      long = rw q (length-set n k x ∙ u.long);
      is = rw (q, add-one) (take-suc-set n k x (omega (arith, u.long)) ∙ rw (u.is, e) (sym (threes-next k m)));
    }

pub reading-all : {m n : List ℕ} {k : ℕ} → Reading m n k → 8 ≤ k → n ≡ threes_in layout.scalars_count m
reading-all {m} {n} {k} u h =
    let e : k ≡ 8 = omega (arith, u.upto) in
    let l : take 8 n ≡ n = rw (← u.long) (take-length n) in
    sym l ∙ rw (sym e) u.is

pub first-read : {m n : List ℕ} → n ≡ threes_in layout.scalars_count m → ScalarsReadable m → get_or n 0 0 ≤ 1
unfolding threes_in
first-read q r = rw q r.sign

-- the loop that writes them
pub record Writing (n d m : List ℕ) (k : ℕ) : Type 0 where
  pub upto : k ≤ 8
  pub long : length m ≡ length d
  pub is : m ≡ each three (take k n) ++ drop (3 * k) d

each_next : (n : List ℕ) (k : ℕ) → k < length n → each three (take (suc k) n) ≡ each three (take k n) ++ three (get_or n k 0)
each_next [] k h = absurd (not-suc-le-zero h)
each_next (x ∷ n) zero h = refl
each_next (x ∷ n) (suc k) h = ap (λ (l : List ℕ). three x ++ l) (each_next n k (le_of_suc-le-suc h))

pub writing-none : (n d : List ℕ) → Writing n d d 0
writing-none n d = record { upto = omega arith; long = refl; is = refl }

pub writing_more : {n d m m' : List ℕ} {k x : ℕ} → Numbers n (length d) → Writing n d m k → k < 8 → x ≡ get_or n k 0 → m' ≡ pasted m (3 * k) (three x) → length m' ≡ length m
    → Writing n d m' (k + 1)
writing_more {n} {d} {m} {k = k} {x = x} pre u h e q l =
    let b : k < length n = omega (arith, pre.count) in
    let F : List ℕ = each three (take k n) in
    let lF : length F ≡ 3 * k = length-each 3 three (λ y. refl) (take k n) ∙ ap (λ (y : ℕ). 3 * y) (length-take-le k n (omega arith)) in
    let z : 3 * k + 3 ≡ 3 * (k + 1) = omega arith in
    let after : drop (3 * k + 3) (F ++ drop (3 * k) d) ≡ drop (3 * (k + 1)) d =
    sym (drop-drop 3 (3 * k) (F ++ drop (3 * k) d)) ∙ ap (drop 3) (drop_at F (drop (3 * k) d) (3 * k) lF)
    ∙ drop-drop 3 (3 * k) d ∙ ap (λ (y : ℕ). drop y d) z in
    let next : each three (take (k + 1) n) ≡ F ++ three (get_or n k 0) = rw add-one (each_next n k b) in
    record {
      upto = omega arith;
      long = l ∙ u.long;
      is =
          q ∙ rw (u.is, take_at F (drop (3 * k) d) (3 * k) lF, after, e, next) (sym (append_assoc F (three (get_or n k 0)) (drop (3 * (k + 1)) d)));
    }

pub writing-all : {n d m : List ℕ} {k : ℕ} → Numbers n (length d) → Writing n d m k → 8 ≤ k → m ≡ each three n ++ drop layout.first_length d
writing-all {n} {d} {m} {k} pre u h =
    let e : k ≡ 8 = omega (arith, u.upto) in
    let l : take 8 n ≡ n = rw (← pre.count) (take-length n) in
    u.is ∙ rw (e, l) refl

-- the cells of a state at rest: its scalars, then its strings, then what is beyond
state-parts : (s : State) (r : List ℕ) → state_cells s ++ r ≡ each three (scalars s) ++ (string_cells (strings s) ++ r)
unfolding state_cells
state-parts s r = append_assoc (each three (scalars s)) (string_cells (strings s)) r

module _ {m : List ℕ} (pre : Openable m) where
  abbrev s : State
  s = state_of m

  parts : m ≡ each three (scalars s) ++ (string_cells (strings s) ++ drop limit.state m)
  parts = sym (take-append-drop limit.state m) ∙ ap (λ (l : List ℕ). l ++ drop limit.state m) (sym pre.cells) ∙ state-parts s (drop limit.state m)

  scalars-long : length (each three (scalars s)) ≡ layout.first_length
  scalars-long = length-each 3 three (λ n. refl) (scalars s)

  strings-long : length (string_cells (strings s)) ≡ layout.strings_bytes
  strings-long = length-string_cells (strings s) (length-strings s pre.fine) (omega (arith, fine-room s pre.fine))

  pub scalars-are : threes_in layout.scalars_count m ≡ scalars s
  scalars-are = ap (threes_in layout.scalars_count) parts ∙ threes-back (scalars s) (string_cells (strings s) ++ drop limit.state m)

  -- the first is H
  sign-most : (b : Bool) → cond b 1 0 ≤ 1
  sign-most true = omega arith
  sign-most false = omega arith

  first-scalar : three_at 0 m ≡ cond s.store.plus 1 0
  unfolding threes_in
  first-scalar = ap (λ (l : List ℕ). get_or l 0 0) scalars-are

  pub scalars-readable : ScalarsReadable m
  scalars-readable = record { long = omega (arith, pre.long); sign = rw first-scalar (sign-most s.store.plus) }

  -- the part behind the scalars
  behind : take layout.strings_bytes (drop layout.first_length m) ≡ string_cells (strings s)
  behind =
      ap (λ (l : List ℕ). take layout.strings_bytes (drop layout.first_length l)) parts
      ∙ ap (take layout.strings_bytes) (drop_at (each three (scalars s)) (string_cells (strings s) ++ drop limit.state m) layout.first_length scalars-long)
      ∙ take_at (string_cells (strings s)) (drop limit.state m) layout.strings_bytes strings-long

  strings-are : {l : List ℕ} → l ≡ take layout.strings_bytes (drop layout.first_length m) → strings_in l ≡ strings s
  strings-are q = rw (q, behind) (strings-back (strings s) (length-strings s pre.fine))

  pub unpackable : {l : List ℕ} → l ≡ take layout.strings_bytes (drop layout.first_length m) → Packed l
  unpackable {l} q = record { is = q ∙ behind ∙ ap string_cells (sym (strings-are q)); fits = rw (strings-are q) (omega (arith, fine-room s pre.fine)) }

  pub opened : {l : List ℕ} {vs : List (List ℕ)} {n : List ℕ} → l ≡ take layout.strings_bytes (drop layout.first_length m) → n ≡ threes_in layout.scalars_count m → vs ≡ strings_in l → Lies vs n s
  opened q r h = record { strings_is = h ∙ strings-are q; numbers = r ∙ scalars-are; fine = pre.fine }

-- the strings in their place behind the scalars
pub strung : (m : List ℕ) {l x : List ℕ} → l ≡ x → take layout.first_length m ++ (l ++ drop layout.strings_bytes (drop layout.first_length m)) ≡ take layout.first_length m ++ (x ++ drop limit.state m)
strung m q = rw (q, drop-drop layout.strings_bytes layout.first_length m) refl

-- and closed again
module _ {vs : List (List ℕ)} {n : List ℕ} {s : State} (h : Lies vs n s) where
  pub numbers_fit : {cells : ℕ} → limit.state ≤ cells → Numbers n cells
  numbers_fit l = record { count = numbers-long h; small = λ k. omega (arith, number_most h k); long = omega (arith, l) }

  pub closed : (m : List ℕ) {m₁ m₂ : List ℕ} → m₁ ≡ each three n ++ drop layout.first_length m → m₂ ≡ take layout.first_length m₁ ++ (string_cells vs ++ drop limit.state m₁) → m₂ ≡ written s m
  unfolding written
  closed m {m₁} q r =
      let N : List ℕ = each three n in
      let l : length N ≡ layout.first_length = length-each 3 three (λ x. refl) n ∙ ap (λ (x : ℕ). 3 * x) (numbers-long h) in
      let a : take layout.first_length m₁ ≡ N = rw q (take_at N (drop layout.first_length m) layout.first_length l) in
      let b : drop limit.state m₁ ≡ drop limit.state m =
      sym (drop-drop layout.strings_bytes layout.first_length m₁) ∙ ap (drop layout.strings_bytes) (ap (drop layout.first_length) q ∙ drop_at N (drop layout.first_length m) layout.first_length l) ∙ drop-drop layout.strings_bytes layout.first_length m in
      let D : List ℕ = drop limit.state m in
      r ∙ rw (a, b) (ap (λ (l : List ℕ). l ++ (string_cells vs ++ D)) (ap (each three) h.numbers))
      ∙ ap (λ (v : List (List ℕ)). each three (scalars s) ++ (string_cells v ++ D)) h.strings_is ∙ sym (state-parts s D)
