-- A line by its digits: its last byte, its bytes, their sum, and the length that it says.
use Rattle.std.specs.Prelude.{Some, None}
use mathlib.Core.Path.{◌≡◌, refl, sym, ap, ◌∙◌}
use mathlib.Core.Bool.{Bool, true, false, cond, ◌&&◌, and_assoc, and-true, and-false}
use mathlib.Core.List.{List, [], ◌∷◌, ◌++◌}
use Prim.Native.Nat.{ℕ, zero, suc, ◌+◌, ◌*◌, ◌%◌, ◌≤◌, ◌<◌}
use native.Mathlib.Omega.{arith}
use lib.Dec.{T, eqb}
use lib.ListN.{length, get_or, take, length-take}
use lib.Seq.{get_or-take}
use lib.Ieee.Bits.{is_true}
use borrow.Author.Tests.{eq-eqb, ne_eqb}
use Rattle.lists.specs.ListLaws.{T-both, all-at, total-append}
use Rattle.lists.specs.Lists.{all}
use Rattle.layout.proofs.CellLaws.{twice}
use Rattle.layout.specs.Cells.{cell}
use Rattle.hexadecimal.specs.Below.Hexadecimal.{digit_value, is_digit, is_line, bytes_in}
use Rattle.hexadecimal.specs.Below.Frames.{sum, right_length, right_sum, sound_line}
use Rattle.hexadecimal.specs.Digits.{byte_by, told_byte, digits_at}
use Rattle.hexadecimal.proofs.Laws.{told-byte, told-byte-none, told-byte-some, digits-next, length_digits, all_two, bytes-two, digits-stop}
use Rattle.state_lines.specs.Sums.{told_sum}

-- ---- the sum

-- j bytes are digits, and s is their sum
pub record Summed (l : List ℕ) (j s : ℕ) : Type 0 where
  pub digits_so_far : all is_digit (digits_at l 0 j) ≡ true
  pub sum_so_far : s ≡ sum (bytes_in (digits_at l 0 j)) % 256

pub summed-none : (l : List ℕ) → Summed l 0 0
unfolding bytes_in
summed-none l = record { digits_so_far = refl; sum_so_far = refl }

pub summed-all : (l : List ℕ) (n j s : ℕ) → Summed l j s → j ≤ n → n ≤ j → Some s ≡ told_sum l n
unfolding told_sum
summed-all l n j s r h k =
    let q : j ≡ n = omega arith in
    let d : all is_digit (digits_at l 0 n) ≡ true = ap (λ (m : ℕ). all is_digit (digits_at l 0 m)) (sym q) ∙ r.digits_so_far in
    rw d (ap (λ (m : ℕ). Some m) (r.sum_so_far ∙ ap (λ (m : ℕ). sum (bytes_in (digits_at l 0 m)) % 256) q))

module _ (l : List ℕ) (n j s : ℕ) (r : Summed l j s) (there : 2 * n ≤ length l) (k : j < n) where
  abbrev u : ℕ
  u = get_or l (2 * j) 0

  abbrev v : ℕ
  v = get_or l (1 + 2 * j) 0

  more : 0 + 2 * (j + 1) ≤ length l
  more = omega arith

  pub summed_turn : (b : ℕ) → told_byte u v ≡ Some b → Summed l (j + 1) ((s + b) % 256)
  summed_turn b e =
      let D = digits_at l 0 j in
      let z : 0 + 2 * j ≡ 2 * j = omega arith in
      let told = told-byte-some u v b e in
      let next : digits_at l 0 (j + 1) ≡ D ++ (u ∷ v ∷ []) = digits-next l 0 j more ∙ ap (λ (m : ℕ). D ++ (get_or l m 0 ∷ get_or l (1 + m) 0 ∷ [])) z in
      let long = length_digits l 0 j more in
      let yes : is_digit u && (is_digit v && true) ≡ true = ap (λ (z : Bool). is_digit u && z) (and-true (is_digit v)) ∙ told.0 in
      let total : sum (bytes_in (digits_at l 0 (j + 1))) ≡ sum (bytes_in D) + b =
      ap (λ (m : List ℕ). sum (bytes_in m)) next ∙ ap sum (bytes-two j D u v long) ∙ ap (λ (m : ℕ). sum (bytes_in D ++ (m ∷ []))) (sym told.1)
      ∙ total-append (λ x. x) (bytes_in D) (b ∷ []) ∙ omega arith in
      record {
        digits_so_far = ap (all is_digit) next ∙ all_two D u v ∙ rw (r.digits_so_far, yes);
        sum_so_far = rw (r.sum_so_far, total) (omega arith);
      }

  pub summed-stops : told_byte u v ≡ None → None ≡ told_sum l n
  unfolding told_sum
  summed-stops e =
      let z : 0 + 2 * j ≡ 2 * j = omega arith in
      let no : is_digit (get_or l (0 + 2 * j) 0) && is_digit (get_or l (1 + (0 + 2 * j)) 0) ≡ false =
      ap (λ (m : ℕ). is_digit (get_or l m 0) && is_digit (get_or l (1 + m) 0)) z ∙ told-byte-none u v e in
      let d : all is_digit (digits_at l 0 n) ≡ false = digits-stop l 0 n j more k no in
      rw d

-- ---- a line of 2 k + 1 bytes

line-by : (k : ℕ) (l : List ℕ) → length l ≡ 2 * k + 1 → is_line l ≡ all is_digit (take (2 * k) l) && eqb (get_or l (2 * k) 0) 10
unfolding is_line
line-by zero [] h = absurd (omega (arith, h))
line-by zero (x ∷ []) h = refl
line-by zero (x ∷ y ∷ l) h = absurd (omega (arith, h))
line-by (suc k) [] h = absurd (omega (arith, h))
line-by (suc k) (x ∷ []) h = absurd (omega (arith, h))
line-by (suc k) (x ∷ y ∷ l) h =
    let a = is_digit x in
    let b = is_digit y in
    let c = all is_digit (take (2 * k) l) in
    let d = eqb (get_or l (2 * k) 0) 10 in
    let e : is_line l ≡ c && d = line-by k l (omega (arith, h)) in
    rw (twice k, e) (and_assoc a b (c && d) ∙ sym (and_assoc a (b && c) d ∙ ap (λ (z : Bool). a && z) (and_assoc b c d)))

even-line : (k : ℕ) (l : List ℕ) → length l ≡ 2 * k → is_line l ≡ false
unfolding is_line
even-line zero [] h = refl
even-line zero (x ∷ l) h = absurd (omega (arith, h))
even-line (suc k) [] h = absurd (omega (arith, h))
even-line (suc k) (x ∷ []) h = absurd (omega (arith, h))
even-line (suc k) (x ∷ y ∷ l) h = rw (even-line k l (omega (arith, h))) (and-false (is_digit x && is_digit y))

bytes-by : (k : ℕ) (l : List ℕ) → length l ≡ 2 * k + 1 → bytes_in l ≡ bytes_in (take (2 * k) l)
unfolding bytes_in
bytes-by zero [] h = refl
bytes-by zero (x ∷ []) h = refl
bytes-by zero (x ∷ y ∷ l) h = absurd (omega (arith, h))
bytes-by (suc k) [] h = absurd (omega (arith, h))
bytes-by (suc k) (x ∷ []) h = absurd (omega (arith, h))
bytes-by (suc k) (x ∷ y ∷ l) h = rw (twice k) (ap (λ (t : List ℕ). (16 * digit_value x + digit_value y) ∷ t) (bytes-by k l (omega (arith, h))))

-- byte i of a line
byte-in : (i : ℕ) (l : List ℕ) → 2 * i + 1 < length l → cell (bytes_in l) i ≡ 16 * digit_value (get_or l (2 * i) 0) + digit_value (get_or l (1 + 2 * i) 0)
unfolding bytes_in
byte-in zero [] h = absurd (omega (arith, h))
byte-in zero (x ∷ []) h = absurd (omega (arith, h))
byte-in zero (x ∷ y ∷ l) h = refl
byte-in (suc i) [] h = absurd (omega (arith, h))
byte-in (suc i) (x ∷ []) h = absurd (omega (arith, h))
byte-in (suc i) (x ∷ y ∷ l) h =
    let z : 1 + suc (suc (2 * i)) ≡ suc (suc (1 + 2 * i)) = omega arith in
    rw (twice i, z) (byte-in i l (omega (arith, h)))

length-line : (k : ℕ) (l : List ℕ) → length l ≡ 2 * k + 1 → length (bytes_in l) ≡ k
unfolding bytes_in
length-line zero [] h = refl
length-line zero (x ∷ []) h = refl
length-line zero (x ∷ y ∷ l) h = absurd (omega (arith, h))
length-line (suc k) [] h = absurd (omega (arith, h))
length-line (suc k) (x ∷ []) h = absurd (omega (arith, h))
length-line (suc k) (x ∷ y ∷ l) h = ap suc (length-line k l (omega (arith, h)))

-- ---- the five ways out

no_line : (l : List ℕ) → is_line l ≡ false → false ≡ sound_line l
unfolding sound_line
no_line l e = rw e

pub out-even : (l : List ℕ) (k : ℕ) → length l ≡ 2 * k → false ≡ sound_line l
out-even l k h = no_line l (even-line k l h)

module _ (l : List ℕ) (k : ℕ) (h : length l ≡ 2 * k + 1) where
  abbrev B : List ℕ
  B = bytes_in l

  abbrev D : List ℕ
  D = take (2 * k) l

  pub out-last : (get_or l (2 * k) 0 ≡ 10 → ⊥) → false ≡ sound_line l
  out-last n = no_line l (line-by k l h ∙ rw (ne_eqb (get_or l (2 * k) 0) 10 n) (and-false (all is_digit D)))

  no_length : right_length B ≡ false → false ≡ sound_line l
  unfolding sound_line
  no_length e = rw (e, and-false (is_line l))

  pub out-short : k < 5 → false ≡ sound_line l
  out-short n = no_length (ne_eqb (length B) (5 + (256 * cell B 2 + cell B 3)) (λ e. omega (arith, e, length-line k l h)))

  no-sum : right_sum B ≡ false → false ≡ sound_line l
  unfolding sound_line
  no-sum e = rw e (sym (and-false (is_line l && right_length B)))

  pub out-none : told_sum l k ≡ None → false ≡ sound_line l
  unfolding told_sum
  out-none e = go (all is_digit D) refl e
    where
      go : (b : Bool) → all is_digit D ≡ b → cond b (Some (sum (bytes_in D) % 256)) None ≡ None → false ≡ sound_line l
      go true d q = cc
      go false d q = no_line l (line-by k l h ∙ rw d)

  -- what is told is the sum of digits
  told_digits : (s : ℕ) → told_sum l k ≡ Some s → (all is_digit D ≡ true) × (s ≡ sum B % 256)
  unfolding told_sum
  told_digits s e = go (all is_digit D) refl e
    where
      go : (b : Bool) → all is_digit D ≡ b → cond b (Some (sum (bytes_in D) % 256)) None ≡ Some s → (all is_digit D ≡ true) × (s ≡ sum B % 256)
      go true d q = let v : s ≡ sum (bytes_in D) % 256 = cc in (d, v ∙ ap (λ (m : List ℕ). sum m % 256) (sym (bytes-by k l h)))
      go false d q = cc

  pub out-sum : (s : ℕ) → told_sum l k ≡ Some s → (s ≡ 0 → ⊥) → false ≡ sound_line l
  out-sum s e n = no-sum (ne_eqb (sum B % 256) 0 (λ z. n ((told_digits s e).1 ∙ z)))

  -- two of the first digits
  both : (i j : ℕ) → i < 2 * k → j < 2 * k → all is_digit D ≡ true → is_digit (get_or l i 0) && is_digit (get_or l j 0) ≡ true
  both i j a b d =
      let long : length D ≡ 2 * k = simp length-take (omega arith) in
      let t : T (all is_digit D) = rw d tt in
      let x : T (is_digit (get_or D i 0)) = all-at is_digit D t i 0 (omega arith) in
      let y : T (is_digit (get_or D j 0)) = all-at is_digit D t j 0 (omega arith) in
      is_true (is_digit (get_or l i 0) && is_digit (get_or l j 0)) (T-both (is_digit (get_or l i 0)) (is_digit (get_or l j 0)) (rw (get_or-take (2 * k) l i 0 a) at x) (rw (get_or-take (2 * k) l j 0 b) at y))

  -- the two bytes of the length are there
  pub told_two : told_sum l k ≡ Some 0 → 5 ≤ k → (i : ℕ) → i ≤ 6 → told_byte (get_or l i 0) (get_or l (1 + i) 0) ≡ Some (byte_by (get_or l i 0) (get_or l (1 + i) 0))
  told_two e five i h = told-byte (get_or l i 0) (get_or l (1 + i) 0) (both i (1 + i) (omega arith) (omega arith) (told_digits 0 e).0)

  sound : is_line l ≡ true → right_sum B ≡ true → sound_line l ≡ right_length B
  unfolding sound_line
  sound a b = rw (a, b) (and-true (right_length B))

  pub out-all : (high low : ℕ) (r : Bool) → get_or l (2 * k) 0 ≡ 10 → told_sum l k ≡ Some 0 → high ≡ byte_by (get_or l 4 0) (get_or l 5 0)
      → low ≡ byte_by (get_or l 6 0) (get_or l 7 0) → 5 ≤ k → r ≡ eqb k (5 + (256 * high + low)) → r ≡ sound_line l
  out-all high low r z e eh el five er =
      let t = told_digits 0 e in
      let high_is : high ≡ cell B 2 = eh ∙ sym (byte-in 2 l (omega (arith, h))) in
      let low-is : low ≡ cell B 3 = el ∙ sym (byte-in 3 l (omega (arith, h))) in
      let line : is_line l ≡ true = line-by k l h ∙ rw (t.0, eq-eqb (get_or l (2 * k) 0) 10 z) in
      let zero-sum : right_sum B ≡ true = eq-eqb (sum B % 256) 0 (sym t.1) in
      let length_is : right_length B ≡ r = (let x = length-line k l h in λ i. eqb (x i) (5 + (256 * sym high_is i + sym low-is i))) ∙ sym er in
      sym (sound line zero-sum ∙ length_is)
