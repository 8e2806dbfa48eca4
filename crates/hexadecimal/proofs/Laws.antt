-- Digits and bytes as the code computes them: by computed tests, and one turn of each loop.
use Rattle.std.specs.Prelude.{Some, None, not}
use mathlib.Core.Path.{◌≡◌, refl, sym, ap, ◌∙◌, subst}
use mathlib.Core.Bool.{Bool, true, false, cond, ◌&&◌, and_assoc, and-false, and-true}
pub use mathlib.Core.Bool.{and-false}
use mathlib.Core.List.{List, [], ◌∷◌, ◌++◌}
use Prim.Native.Nat.{ℕ, zero, suc, ◌+◌, ◌*◌, ◌-◌, ◌/◌, ◌%◌, ◌≤◌, ◌<◌}
use native.Mathlib.Numerals.{add-one}
use native.Mathlib.Omega.{arith}
use lib.Dec.{T, eqb, leb, ltb, eqb→eq, ltb→lt}
use lib.ListN.{length, get_or, take, drop, set, length-take, length-drop}
use lib.Seq.{take_all, set_split, take-suc, take-add, take-take, drop-cons, get_or-drop}
use lib.Ieee.Bits.{is_true, is_false}
use borrow.Author.Tests.{lt-ltb, le-ltb, le-leb, lt-leb}
use Rattle.lists.specs.SearchLaws.{any-ahead}
use Rattle.lists.specs.ListLaws.{T-left, T-right, T-both, all_head, all_tail, total-append}
use Rattle.lists.specs.Lists.{all}
use Rattle.lists.specs.SearchLaws.{any-ahead}
use Rattle.lists.specs.TableLaws.{below}
use Rattle.layout.proofs.CellLaws.{length-each}
use Rattle.cells.proofs.Laws.{pasted-pasted, length-pasted, pasted-none, set-two}
use Rattle.cells.specs.Cells.{pasted}
use Rattle.state_frames.specs.Hexadecimal.{digits, digit, digit_value, is_digit, two_digits, hexadecimal, bytes_in}
use Rattle.state_frames.specs.Frames.{sum}
use Rattle.hexadecimal.specs.Digits.{byte_by, told_digit, told_byte, digits_at, Got}

-- ---- digits, by one computed test each way

abbrev by_number : ℕ → ℕ
by_number n = cond (ltb n 10) (48 + n) (55 + n)

digit-by : (n : ℕ) → n < 16 → by_number n ≡ digit n
unfolding digit
digit-by n h = eqb→eq (by_number n) (digit n) (below (λ k. eqb (by_number k) (digit k)) 16 tt n h)

pub digit_low : (n : ℕ) → n < 10 → 48 + n ≡ digit n
digit_low n h = let k : n < 16 = omega arith in rw (lt-ltb n 10 h) at (digit-by n k)

pub digit-high : (n : ℕ) → n < 16 → 10 ≤ n → 55 + n ≡ digit n
digit-high n k h = rw (le-ltb n 10 h) at (digit-by n k)

-- the number of a character, by one computed test of all
abbrev right_by : ℕ → Bool
right_by x =
    cond (leb 48 x && leb x 57) (is_digit x && eqb (x - 48) (digit_value x))
    (cond (leb 65 x && leb x 70) (is_digit x && eqb (x - 65 + 10) (digit_value x))
    (not (is_digit x)))

right : (x : ℕ) → x < 256 → T (right_by x)
unfolding digit_value is_digit
right x h = below right_by 256 tt x h

told-of : (x n : ℕ) → T (is_digit x && eqb n (digit_value x)) → Some n ≡ told_digit x
unfolding told_digit
told-of x n h =
    let d : is_digit x ≡ true = is_true (is_digit x) (T-left (is_digit x) (eqb n (digit_value x)) h) in
    let e : n ≡ digit_value x = eqb→eq n (digit_value x) (T-right (is_digit x) (eqb n (digit_value x)) h) in
    rw (d, e)

module _ (x : ℕ) (b : x < 256) where
  pub value_low : 48 ≤ x → x ≤ 57 → Some (x - 48) ≡ told_digit x
  value_low h k = told-of x (x - 48) (rw (le-leb 48 x h, le-leb x 57 k) at (right x b))

  pub value_high : 65 ≤ x → x ≤ 70 → Some (x - 65 + 10) ≡ told_digit x
  value_high h k =
      let z : leb x 57 ≡ false = lt-leb x 57 (omega (arith, h)) in
      told-of x (x - 65 + 10) (rw (z, and-false (leb 48 x), le-leb 65 x h, le-leb x 70 k) at (right x b))

  -- the test says nothing of any other
  none-of : T (not (is_digit x)) → None ≡ told_digit x
  unfolding told_digit
  none-of h = let d : is_digit x ≡ false = is_false (is_digit x) h in rw d

  pub value_below : x < 48 → None ≡ told_digit x
  value_below h =
      let z : leb 48 x ≡ false = lt-leb 48 x h in
      let y : leb 65 x ≡ false = lt-leb 65 x (omega (arith, h)) in
      none-of (rw (z, y) at (right x b))

  pub value_between : 57 < x → x < 65 → None ≡ told_digit x
  value_between h k =
      let z : leb x 57 ≡ false = lt-leb x 57 h in
      let y : leb 65 x ≡ false = lt-leb 65 x k in
      none-of (rw (z, and-false (leb 48 x), y) at (right x b))

  pub value_above : 70 < x → None ≡ told_digit x
  value_above h =
      let z : leb x 57 ≡ false = lt-leb x 57 (omega (arith, h)) in
      let y : leb x 70 ≡ false = lt-leb x 70 h in
      none-of (rw (z, and-false (leb 48 x), y, and-false (leb 65 x)) at (right x b))

-- ---- two digits

-- a digit is what has a number below 16
pub is-digit-by : (x : ℕ) → is_digit x ≡ ltb (digit_value x) 16
unfolding digit_value is_digit
is-digit-by x = any-ahead (eqb x) digits

-- one cell set is a run of one
pub set-one : (d : List ℕ) (at x : ℕ) → at < length d → set d at x ≡ pasted d at (x ∷ [])
set-one d at x h = let e : at + 1 ≡ suc at = omega arith in rw e (set_split d at x h)

module _ (x y : ℕ) where
  pub two-digit : digit_value x < 16 → digit_value y < 16 → is_digit x && is_digit y ≡ true
  two-digit h k = rw (is-digit-by x, is-digit-by y, lt-ltb (digit_value x) 16 h, lt-ltb (digit_value y) 16 k)

  digit-below : (z : ℕ) → T (is_digit z) → digit_value z < 16
  digit-below z h = ltb→lt (digit_value z) 16 (subst T (is-digit-by z) h)

-- the three ends of reading a byte, from what is told of its digits
told-none : (x : ℕ) → told_digit x ≡ None → is_digit x ≡ false
unfolding told_digit
told-none x e = go (is_digit x) e
  where
    go : (q : Bool) → cond q (Some (digit_value x)) None ≡ None → q ≡ false
    go true e = cc
    go false e = refl

told-some : (x u : ℕ) → told_digit x ≡ Some u → (is_digit x ≡ true) × (u ≡ digit_value x)
unfolding told_digit
told-some x u e = go (is_digit x) e
  where
    go : (q : Bool) → cond q (Some (digit_value x)) None ≡ Some u → (q ≡ true) × (u ≡ digit_value x)
    go true e = (refl, cc)
    go false e = cc

module _ (x y : ℕ) where
  pub byte-1 : told_digit x ≡ None → None ≡ told_byte x y
  unfolding told_byte
  byte-1 e = rw (told-none x e)

  pub byte-2 : told_digit y ≡ None → None ≡ told_byte x y
  unfolding told_byte
  byte-2 e = rw (told-none y e, and-false (is_digit x))

  module _ (u v : ℕ) (e : told_digit x ≡ Some u) (f : told_digit y ≡ Some v) where
    yes : is_digit x && is_digit y ≡ true
    yes = rw ((told-some x u e).0, (told-some y v f).0) refl

    pub byte-3 : Some (16 * u + v) ≡ told_byte x y
    unfolding told_byte
    byte-3 = rw (yes, (told-some x u e).1, (told-some y v f).1)

  pub digit-most : (u : ℕ) → told_digit x ≡ Some u → u < 16
  digit-most u e = let t = told-some x u e in rw t.1 (digit-below x y x (rw t.0 tt))

  pub told-byte : is_digit x && is_digit y ≡ true → told_byte x y ≡ Some (byte_by x y)
  unfolding told_byte
  told-byte e = rw e

  -- what is told of a byte says whether both are digits
  pub told-byte-none : told_byte x y ≡ None → is_digit x && is_digit y ≡ false
  unfolding told_byte
  told-byte-none e = go (is_digit x && is_digit y) e
    where
      go : (q : Bool) → cond q (Some (byte_by x y)) None ≡ None → q ≡ false
      go true e = cc
      go false e = refl

  pub told-byte-some : (b : ℕ) → told_byte x y ≡ Some b → (is_digit x && is_digit y ≡ true) × (b ≡ byte_by x y)
  unfolding told_byte
  told-byte-some b e = go (is_digit x && is_digit y) e
    where
      go : (q : Bool) → cond q (Some (byte_by x y)) None ≡ Some b → (q ≡ true) × (b ≡ byte_by x y)
      go true e = (refl, cc)
      go false e = cc

-- ---- bytes written

pub two-set : (d : List ℕ) (at b x y : ℕ) → x ≡ digit (b / 16) → y ≡ digit (b % 16) → at + 2 ≤ length d → set (set d at x) (at + 1) y ≡ pasted d at (two_digits b)
two-set d at b x y e f h = set-two d at x y h ∙ (λ i. pasted d at (e i ∷ f i ∷ []))

pub length-hexadecimal : (l : List ℕ) → length (hexadecimal l) ≡ 2 * length l
unfolding hexadecimal
length-hexadecimal l = length-each 2 two_digits (λ n. refl) l

pub hexadecimal-append : (l m : List ℕ) → hexadecimal (l ++ m) ≡ hexadecimal l ++ hexadecimal m
unfolding hexadecimal
hexadecimal-append [] m = refl
hexadecimal-append (x ∷ l) m = ap (λ (t : List ℕ). two_digits x ++ t) (hexadecimal-append l m)

pub hexadecimal-one : (x : ℕ) → hexadecimal (x ∷ []) ≡ two_digits x
unfolding hexadecimal
hexadecimal-one x = refl

-- what stands in d when j bytes of s are written
abbrev pub written : List ℕ → ℕ → List ℕ → ℕ → List ℕ
written d at s j = pasted d at (hexadecimal (take j s))

pub written_none : (d : List ℕ) (at : ℕ) (s : List ℕ) → d ≡ written d at s 0
unfolding hexadecimal
written_none d at s = pasted-none d at

pub written-turn : (d : List ℕ) (at : ℕ) (s t u : List ℕ) (j x : ℕ) → t ≡ written d at s j → at + 2 * length s ≤ length d → j < length s → x ≡ get_or s j 0
    → u ≡ pasted t (at + 2 * j) (two_digits x) → u ≡ written d at s (j + 1)
written-turn d at s t u j x e h k f g =
    let a = hexadecimal (take j s) in
    let l : length (take j s) ≡ j = simp length-take (omega arith) in
    let la : length a ≡ 2 * j = length-hexadecimal (take j s) ∙ ap (λ (n : ℕ). 2 * n) l in
    let q : take (j + 1) s ≡ take j s ++ (x ∷ []) = rw (add-one, f) (take-suc s j 0 k) in
    let r : hexadecimal (take (j + 1) s) ≡ a ++ two_digits x =
    ap hexadecimal q ∙ hexadecimal-append (take j s) (x ∷ []) ∙ ap (λ (z : List ℕ). a ++ z) (hexadecimal-one x) in
    let w : at + 2 * j ≡ at + length a = omega (arith, la) in
    g ∙ ap (λ (z : List ℕ). pasted z (at + 2 * j) (two_digits x)) e ∙ ap (λ (n : ℕ). pasted (pasted d at a) n (two_digits x)) w
    ∙ pasted-pasted d at a (two_digits x) (omega (arith, la)) ∙ ap (pasted d at) (sym r)

-- ---- bytes read

take-two : (l : List ℕ) (k : ℕ) → k + 2 ≤ length l → take (k + 2) l ≡ take k l ++ (get_or l k 0 ∷ get_or l (1 + k) 0 ∷ [])
take-two l k h =
    let z : suc k ≡ 1 + k = omega arith in
    let a : drop k l ≡ get_or l k 0 ∷ drop (suc k) l = drop-cons l k 0 (omega arith) in
    let b : drop (suc k) l ≡ get_or l (suc k) 0 ∷ drop (suc (suc k)) l = drop-cons l (suc k) 0 (omega arith) in
    let c : take 2 (drop k l) ≡ get_or l k 0 ∷ get_or l (suc k) 0 ∷ [] = rw (a, b) in
    take-add k 2 l ∙ ap (λ (t : List ℕ). take k l ++ t) (c ∙ ap (λ (n : ℕ). get_or l k 0 ∷ get_or l n 0 ∷ []) z)

module _ (text : List ℕ) (at j : ℕ) (h : at + 2 * (j + 1) ≤ length text) where
  abbrev x : ℕ
  x = get_or text (at + 2 * j) 0

  abbrev y : ℕ
  y = get_or text (1 + (at + 2 * j)) 0

  pub digits-next : digits_at text at (j + 1) ≡ digits_at text at j ++ (x ∷ y ∷ [])
  digits-next =
      let z : 2 * (j + 1) ≡ 2 * j + 2 = omega arith in
      let l : 2 * j + 2 ≤ length (drop at text) = simp length-drop (omega arith) in
      let n : at + (1 + 2 * j) ≡ 1 + (at + 2 * j) = omega arith in
      let a : get_or (drop at text) (2 * j) 0 ≡ x = get_or-drop at text (2 * j) 0 in
      let b : get_or (drop at text) (1 + 2 * j) 0 ≡ y = get_or-drop at text (1 + 2 * j) 0 ∙ ap (λ (k : ℕ). get_or text k 0) n in
      ap (λ (k : ℕ). take k (drop at text)) z ∙ take-two (drop at text) (2 * j) l
      ∙ (λ i. digits_at text at j ++ (a i ∷ b i ∷ []))

  pub length_digits : length (digits_at text at j) ≡ 2 * j
  length_digits = simp (length-take, length-drop) (omega arith)

pub all_two : (l : List ℕ) (x y : ℕ) → all is_digit (l ++ (x ∷ y ∷ [])) ≡ all is_digit l && (is_digit x && (is_digit y && true))
all_two [] x y = refl
all_two (z ∷ l) x y = ap (λ (b : Bool). is_digit z && b) (all_two l x y) ∙ sym (and_assoc (is_digit z) (all is_digit l) (is_digit x && (is_digit y && true)))

pub bytes-two : (j : ℕ) (l : List ℕ) (x y : ℕ) → length l ≡ 2 * j → bytes_in (l ++ (x ∷ y ∷ [])) ≡ bytes_in l ++ ((16 * digit_value x + digit_value y) ∷ [])
unfolding bytes_in
bytes-two zero [] x y h = refl
bytes-two zero (a ∷ l) x y h = absurd (omega (arith, h))
bytes-two (suc j) [] x y h = absurd (omega (arith, h))
bytes-two (suc j) (a ∷ []) x y h = absurd (omega (arith, h))
bytes-two (suc j) (a ∷ b ∷ l) x y h = ap (λ (t : List ℕ). (16 * digit_value a + digit_value b) ∷ t) (bytes-two j l x y (omega (arith, h)))

pub length-bytes : (j : ℕ) (l : List ℕ) → length l ≡ 2 * j → length (bytes_in l) ≡ j
unfolding bytes_in
length-bytes zero [] h = refl
length-bytes zero (a ∷ l) h = absurd (omega (arith, h))
length-bytes (suc j) [] h = absurd (omega (arith, h))
length-bytes (suc j) (a ∷ []) h = absurd (omega (arith, h))
length-bytes (suc j) (a ∷ b ∷ l) h = ap suc (length-bytes j l (omega (arith, h)))

all-front : (k : ℕ) (l : List ℕ) → T (all is_digit l) → T (all is_digit (take k l))
all-front zero l h = tt
all-front (suc k) [] h = tt
all-front (suc k) (a ∷ l) h = T-both (is_digit a) (all is_digit (take k l)) (all_head is_digit a l h) (all-front k l (all_tail is_digit a l h))

-- two that are not both digits spoil all
pub digits-stop : (text : List ℕ) (at n j : ℕ) → at + 2 * (j + 1) ≤ length text → j < n
    → is_digit (get_or text (at + 2 * j) 0) && is_digit (get_or text (1 + (at + 2 * j)) 0) ≡ false → all is_digit (digits_at text at n) ≡ false
digits-stop text at n j more k f =
    let D = digits_at text at j in
    let u = get_or text (at + 2 * j) 0 in
    let v = get_or text (1 + (at + 2 * j)) 0 in
    let last : is_digit u && (is_digit v && true) ≡ false = ap (λ (z : Bool). is_digit u && z) (and-true (is_digit v)) ∙ f in
    let short : all is_digit (digits_at text at (j + 1)) ≡ false = ap (all is_digit) (digits-next text at j more) ∙ all_two D u v ∙ rw last (and-false (all is_digit D)) in
    let front : take (2 * (j + 1)) (digits_at text at n) ≡ digits_at text at (j + 1) = take-take (2 * (j + 1)) (2 * n) (drop at text) (omega arith) in
    go (all is_digit (digits_at text at n)) refl (ap (all is_digit) front ∙ short)
  where
    go : (q : Bool) → all is_digit (digits_at text at n) ≡ q → all is_digit (take (2 * (j + 1)) (digits_at text at n)) ≡ false → q ≡ false
    go true z w = absurd (subst T w (all-front (2 * (j + 1)) (digits_at text at n) (rw z tt)))
    go false z w = refl

-- what stands in d when j bytes are read
pub record Read (d : List ℕ) (to : ℕ) (text : List ℕ) (at j : ℕ) (t : List ℕ) : Type 0 where
  pub digits_so_far : all is_digit (digits_at text at j) ≡ true
  pub bytes_so_far : t ≡ pasted d to (bytes_in (digits_at text at j))

pub read_none : (d : List ℕ) (to : ℕ) (text : List ℕ) (at : ℕ) → Read d to text at 0 d
unfolding bytes_in
read_none d to text at = record { digits_so_far = refl; bytes_so_far = pasted-none d to }

module _ (d : List ℕ) (to : ℕ) (text : List ℕ) (at n j : ℕ) (t : List ℕ) (r : Read d to text at j t) (fits : to + n ≤ length d) (there : at + 2 * n ≤ length text) (k : j < n) where
  abbrev u : ℕ
  u = get_or text (at + 2 * j) 0

  abbrev v : ℕ
  v = get_or text (1 + (at + 2 * j)) 0

  more : at + 2 * (j + 1) ≤ length text
  more = omega arith

  pub read-turn : (b : ℕ) → told_byte u v ≡ Some b → Read d to text at (j + 1) (set t (to + j) b)
  read-turn b e =
      let D = digits_at text at j in
      let told = told-byte-some u v b e in
      let next = digits-next text at j more in
      let long = length_digits text at j more in
      let yes : is_digit u && (is_digit v && true) ≡ true = ap (λ (z : Bool). is_digit u && z) (and-true (is_digit v)) ∙ told.0 in
      let lb : length (bytes_in D) ≡ j = length-bytes j D long in
      let at_end : to + j ≡ to + length (bytes_in D) = omega (arith, lb) in
      let room : to + j < length t = rw r.bytes_so_far (rw (length-pasted d to (bytes_in D) (omega (arith, lb))) (omega arith)) in
      record {
        digits_so_far = ap (all is_digit) next ∙ all_two D u v ∙ rw (r.digits_so_far, yes);
        bytes_so_far =
            set-one t (to + j) b room
            ∙ ap (λ (z : List ℕ). pasted z (to + j) (b ∷ [])) r.bytes_so_far
            ∙ ap (λ (m : ℕ). pasted (pasted d to (bytes_in D)) m (b ∷ [])) at_end
            ∙ pasted-pasted d to (bytes_in D) (b ∷ []) (omega (arith, lb))
            ∙ ap (λ (m : ℕ). pasted d to (bytes_in D ++ (m ∷ []))) told.1
            ∙ ap (pasted d to) (sym (ap bytes_in next ∙ bytes-two j D u v long));
      }

  pub read-stops : told_byte u v ≡ None → false ≡ all is_digit (digits_at text at n)
  read-stops e = sym (digits-stop text at n j more k (told-byte-none u v e))

-- all bytes are read
module _ (s : List ℕ) (even : 2 * (length s / 2) ≡ length s) where
  pub digits_all : (j : ℕ) → length s / 2 ≤ j → digits_at s 0 j ≡ s
  digits_all j h = take_all (2 * j) s (omega (arith, even))

  pub read_all : (d : List ℕ) (at j : ℕ) (t : List ℕ) → Read d at s 0 j t → length s / 2 ≤ j → Got d at s (Some tt) t
  read_all d at j t r h =
      let q = digits_all j h in
      record {
        told = sym r.digits_so_far ∙ ap (all is_digit) q;
        bytes = λ z. r.bytes_so_far ∙ ap (λ (l : List ℕ). pasted d at (bytes_in l)) q;
      }

-- ---- sums

pub sum-turn : (s t j x : ℕ) (l : List ℕ) → t ≡ (s + sum (take j l)) % 256 → j < length l → x ≡ get_or l j 0 → (t + x) % 256 ≡ (s + sum (take (j + 1) l)) % 256
sum-turn s t j x l e h f =
    let q : sum (take (j + 1) l) ≡ sum (take j l) + get_or l j 0 =
    rw add-one (ap sum (take-suc l j 0 h) ∙ total-append (λ b. b) (take j l) (get_or l j 0 ∷ []) ∙ omega arith) in
    rw (e, f, q) (omega arith)
