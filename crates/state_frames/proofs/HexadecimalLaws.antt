-- Laws of hexadecimal and of lines: what is written is read back, and what is read has one form only.
use Rattle.std.specs.Prelude.{◌≡◌, refl, Bool, false, not, ◌&&◌, List, [], ◌∷◌, ◌++◌, ℕ, ◌+◌, ◌*◌, ◌/◌, ◌%◌, ◌<◌, T, eqb, ltb}
use Rattle.std.proofs.Common.{ap, arith, eqb→eq, ltb→lt}
use Rattle.std.proofs.lemmas.Bool.{not-true}
use Rattle.lists.specs.ListLaws.{T-left, T-right, T-both, all_among}
use Rattle.lists.specs.TableLaws.{below}
use Rattle.layout.specs.Bounds.{Below}
use Rattle.text_lines.specs.Lines.{onto, lines}
use Rattle.state_frames.specs.Hexadecimal.{digits, digit, digit_value, is_digit, hexadecimal, line, is_line, bytes_in}
use lib.Ieee.Bits.{is_true}

-- ---- digits, by one computed test each way

-- a number below 16 is that of its digit, which is a digit and no LF
abbrev written_right : ℕ → Bool
written_right n = eqb (digit_value (digit n)) n && is_digit (digit n) && not (eqb (digit n) 10)

all-written : (n : ℕ) → n < 16 → T (written_right n)
unfolding digit digit_value is_digit
all-written n h = below written_right 16 tt n h

-- a digit is that of its number, which is below 16
abbrev read_right : ℕ → Bool
read_right x = eqb (digit (digit_value x)) x && ltb (digit_value x) 16

all_read : (x : ℕ) → T (is_digit x) → T (read_right x)
unfolding digit digit_value is_digit
all_read x h = all_among read_right digits tt x h

module _ (n : ℕ) (h : n < 16) where
  abbrev a : Bool
  a = eqb (digit_value (digit n)) n

  abbrev b : Bool
  b = is_digit (digit n)

  abbrev c : Bool
  c = not (eqb (digit n) 10)

  pub digit-back : digit_value (digit n) ≡ n
  digit-back = eqb→eq (digit_value (digit n)) n (T-left a b (T-left (a && b) c (all-written n h)))

  pub digit-is : T (is_digit (digit n))
  digit-is = T-right a b (T-left (a && b) c (all-written n h))

  pub digit-not-LF : eqb (digit n) 10 ≡ false
  digit-not-LF = not-true (eqb (digit n) 10) (is_true c (T-right (a && b) c (all-written n h)))

module _ (x : ℕ) (h : T (is_digit x)) where
  pub value-back : digit (digit_value x) ≡ x
  value-back = eqb→eq (digit (digit_value x)) x (T-left (eqb (digit (digit_value x)) x) (ltb (digit_value x) 16) (all_read x h))

  pub value-below : digit_value x < 16
  value-below = ltb→lt (digit_value x) 16 (T-right (eqb (digit (digit_value x)) x) (ltb (digit_value x) 16) (all_read x h))

-- ---- a line

high-below : (x : ℕ) → x < 256 → x / 16 < 16
high-below x h = omega arith

low_below : (x : ℕ) → x % 16 < 16
low_below x = omega arith

byte-back : (x : ℕ) → 16 * (x / 16) + x % 16 ≡ x
byte-back x = omega arith

-- what is written is read back
pub line-back : (l : List ℕ) → Below 256 l → bytes_in (line l) ≡ l
unfolding hexadecimal line bytes_in
line-back [] h = refl
line-back (x ∷ l) h =
    rw (digit-back (x / 16) (high-below x h.0), digit-back (x % 16) (low_below x), byte-back x)
    (ap (λ (t : List ℕ). x ∷ t) (line-back l h.1))

pub line_is : (l : List ℕ) → Below 256 l → T (is_line (line l))
unfolding hexadecimal line is_line
line_is [] h = tt
line_is (x ∷ l) h =
    let y = digit (x / 16) in
    let z = digit (x % 16) in
    T-both (is_digit y && is_digit z) (is_line (line l))
    (T-both (is_digit y) (is_digit z) (digit-is (x / 16) (high-below x h.0)) (digit-is (x % 16) (low_below x))) (line_is l h.1)

-- what is read is bytes, and is written as it stood
module _ (x y : ℕ) (l : List ℕ) (h : T (is_digit x && is_digit y && is_line l)) where
  first_is : T (is_digit x)
  first_is = T-left (is_digit x) (is_digit y) (T-left (is_digit x && is_digit y) (is_line l) h)

  second_is : T (is_digit y)
  second_is = T-right (is_digit x) (is_digit y) (T-left (is_digit x && is_digit y) (is_line l) h)

  rest_is : T (is_line l)
  rest_is = T-right (is_digit x && is_digit y) (is_line l) h

pub bytes_below : (l : List ℕ) → T (is_line l) → Below 256 (bytes_in l)
unfolding is_line bytes_in
bytes_below [] h = absurd h
bytes_below (x ∷ []) h = tt
bytes_below (x ∷ y ∷ l) h =
    let u = value-below x (first_is x y l h) in
    let v = value-below y (second_is x y l h) in
    (omega arith, bytes_below l (rest_is x y l h))

upper : (u v : ℕ) → v < 16 → (16 * u + v) / 16 ≡ u
upper u v h = omega arith

lower : (u v : ℕ) → v < 16 → (16 * u + v) % 16 ≡ v
lower u v h = omega arith

pub line-of-bytes : (l : List ℕ) → T (is_line l) → line (bytes_in l) ≡ l
unfolding hexadecimal line is_line bytes_in
line-of-bytes [] h = absurd h
line-of-bytes (x ∷ []) h = let e = eqb→eq x 10 h in rw e
line-of-bytes (x ∷ y ∷ l) h =
    let v = value-below y (second_is x y l h) in
    let r = line-of-bytes l (rest_is x y l h) in
    rw (upper (digit_value x) (digit_value y) v, lower (digit_value x) (digit_value y) v, value-back x (first_is x y l h), value-back y (second_is x y l h))
    (ap (λ (t : List ℕ). x ∷ y ∷ t) r)

-- ---- lines

-- the first line and the rest
pub hexadecimal-first : (l t : List ℕ) → Below 256 l → lines (line l ++ t) ≡ line l ∷ lines t
unfolding hexadecimal line lines
hexadecimal-first [] t h = refl
hexadecimal-first (x ∷ l) t h =
    rw (digit-not-LF (x / 16) (high-below x h.0), digit-not-LF (x % 16) (low_below x))
    (ap (λ ls. onto (digit (x / 16)) (onto (digit (x % 16)) ls)) (hexadecimal-first l t h.1))
