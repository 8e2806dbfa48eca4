-- The number that digits write, cut at 8,388,608, and what a sign makes of it.
use mathlib.Core.Path.{◌≡◌, refl, sym, ap, ◌∙◌}
use mathlib.Core.Bool.{Bool, true, false, cond}
use mathlib.Core.List.{List, [], ◌∷◌}
use Prim.Native.Nat.{ℕ, zero, suc, ◌+◌, ◌*◌, ◌-◌, ◌≤◌, ◌<◌, min}
use native.Mathlib.Numerals.{add-one}
use native.Mathlib.Omega.{arith}
use lib.Dec.{leb}
use lib.ListN.{length, get_or, drop, drop_of_length-le}
use lib.IntN.{ℤ, pos, neg_ℤ, nat_abs}
use lib.Seq.{drop-cons}
use borrow.Author.Tests.{ne_eqb, leb-true, leb-false, le-ltb}
use Rattle.std.specs.Prelude.{Option, Some, None, Result, Ok, Err}
use Rattle.std.specs.Option.{ok_or}
use Rattle.characters.specs.Characters.{is_digit}
use Rattle.language.specs.Values.{amount, unsigned, in_range}
use Rattle.layout.specs.Cells.{code}
use Rattle.lists.specs.Lists.{all}
use Rattle.numerals.specs.Numerals.{reads, measured, coded}
use Rattle.numerals.specs.declared.NoNumber.TheVariants.{NotNumeral, OutOfRange}

-- ---- digits

-- a number that is cut may go on
amount-cut : (s : List ℕ) (n : ℕ) → min (amount (min n 8388608) s) 8388608 ≡ min (amount n s) 8388608
amount-cut [] n = omega arith
amount-cut (x ∷ s) n =
    let d : ℕ = x - 48 in
    let e : min (min n 8388608 * 10 + d) 8388608 ≡ min (n * 10 + d) 8388608 = omega arith in
    sym (amount-cut s (min n 8388608 * 10 + d)) ∙ ap (λ (k : ℕ). min (amount k s) 8388608) e ∙ amount-cut s (n * 10 + d)

-- the loop: the first i are digits, and n is their number, cut
pub record Measuring (s : List ℕ) (n i : ℕ) : Type 0 where
  pub within : i ≤ length s
  pub most : n ≤ 8388608
  pub digits_is : all is_digit s ≡ all is_digit (drop i s)
  pub amount_is : min (amount 0 s) 8388608 ≡ min (amount n (drop i s)) 8388608

some-unsigned : (s : List ℕ) → 0 < length s → unsigned s ≡ all is_digit s
some-unsigned [] h = absurd (omega (arith, h))
some-unsigned (x ∷ s) h = refl

pub measured-none : (s : List ℕ) → length s ≡ 0 → measured s ≡ None
unfolding measured
measured-none [] h = refl
measured-none (x ∷ s) h = absurd (omega (arith, h))

module _ {s : List ℕ} {n i : ℕ} (m : Measuring s n i) where
  pub measuring-no : i < length s → is_digit (get_or s i 0) ≡ false → measured s ≡ None
  unfolding measured
  measuring-no h e =
      let none : all is_digit (drop i s) ≡ false = rw (drop-cons s i 0 h, e) in
      rw (some-unsigned s (omega arith) ∙ m.digits_is ∙ none)

  pub measuring-next : i < length s → is_digit (get_or s i 0) ≡ true → {r : ℕ} → r ≡ min (n * 10 + (get_or s i 0 - 48)) 8388608 → Measuring s r (i + 1)
  measuring-next h e {r} q =
      let x : ℕ = get_or s i 0 in
      let l : List ℕ = drop (suc i) s in
      let here : drop i s ≡ x ∷ l = drop-cons s i 0 h in
      let amt : min (amount n (x ∷ l)) 8388608 ≡ min (amount r l) 8388608 = rw q (sym (amount-cut l (n * 10 + (x - 48)))) in
      let dig : all is_digit (x ∷ l) ≡ all is_digit l = rw e in
      rw add-one record {
        within = h;
        most = omega arith;
        digits_is = m.digits_is ∙ ap (all is_digit) here ∙ dig;
        amount_is = m.amount_is ∙ ap (λ k. min (amount n k) 8388608) here ∙ amt;
      }

  pub measuring-all : 0 < length s → length s ≤ i → Some n ≡ measured s
  unfolding measured
  measuring-all h k =
      let end : drop i s ≡ [] = drop_of_length-le s k in
      let good : unsigned s ≡ true = some-unsigned s h ∙ m.digits_is ∙ rw end in
      let cut : min (amount 0 s) 8388608 ≡ n = m.amount_is ∙ rw end (omega (arith, m.most)) in
      rw (good, cut)

-- ---- the sign

-- z is the number of the digits s with a sign
pub record Signed (negative : Bool) (s : List ℕ) (z : ℤ) : Type 0 where
  pub size_is : nat_abs z ≡ amount 0 s
  pub code_is : amount 0 s ≤ 8388607 → code z ≡ cond negative (8388607 - amount 0 s) (8388607 + amount 0 s)

pub coded-is : {negative : Bool} {s : List ℕ} {z : ℤ} → Signed negative s z → coded negative (measured s) ≡ cond (unsigned s) (cond (in_range z) (Ok (code z)) (Err OutOfRange)) (Err NotNumeral)
unfolding coded measured
coded-is {negative} {s} {z} h = rw h.size_is (go (unsigned s) (leb (amount 0 s) 8388607) refl)
  where
    go : (u b : Bool) → leb (amount 0 s) 8388607 ≡ b → coded negative (cond u (Some (min (amount 0 s) 8388608)) None) ≡ cond u (cond b (Ok (code z)) (Err OutOfRange)) (Err NotNumeral)
    go false b e = refl
    go true true e =
        let l : amount 0 s ≤ 8388607 = leb-true (amount 0 s) 8388607 e in
        let m : min (amount 0 s) 8388608 ≡ amount 0 s = omega arith in
        rw (m, le-ltb 8388607 (amount 0 s) l, h.code_is l)
    go true false e =
        let l : 8388607 < amount 0 s = leb-false (amount 0 s) 8388607 e in
        let m : min (amount 0 s) 8388608 ≡ 8388608 = omega arith in
        rw m

plus : (s : List ℕ) → Signed false s (pos (amount 0 s))
unfolding code
plus s = record { size_is = refl; code_is = λ h. refl }

minus : (s : List ℕ) → Signed true s (neg_ℤ (pos (amount 0 s)))
unfolding code
minus s = record { size_is = size (amount 0 s); code_is = coded_by (amount 0 s) }
  where
    size : (n : ℕ) → nat_abs (neg_ℤ (pos n)) ≡ n
    size zero = refl
    size (suc n) = refl

    coded_by : (n : ℕ) → n ≤ 8388607 → code (neg_ℤ (pos n)) ≡ 8388607 - n
    coded_by zero h = refl
    coded_by (suc n) h = omega arith

-- ---- a word by its first character

pub reads_none : (w : List ℕ) → length w ≡ 0 → Err NotNumeral ≡ reads w
unfolding reads
reads_none [] h = refl
reads_none (x ∷ w) h = absurd (omega (arith, h))

module _ (w : List ℕ) (x : ℕ) (ds : List ℕ) (e : w ≡ x ∷ ds) where
  pub reads-minus : x ≡ 45 → coded true (measured ds) ≡ reads w
  unfolding reads
  reads-minus h = rw (e, h) (coded-is (minus ds))

  pub reads-plus : x ≡ 43 → coded false (measured ds) ≡ reads w
  unfolding reads
  reads-plus h = rw (e, h) (coded-is (plus ds))

  pub reads_plain : (x ≡ 45 → ⊥) → (x ≡ 43 → ⊥) → coded false (measured w) ≡ reads w
  unfolding reads
  reads_plain m p = rw (e, ne_eqb x 43 p, ne_eqb x 45 m) (coded-is (plus (x ∷ ds)))

-- the refusal that stands for none is the one that is told
pub none_err : {X E : Type 0} {o : Option X} {r : Result X E} {e f : E} → r ≡ ok_or o e → o ≡ None → r ≡ Err f → f ≡ e
none_err {e = e} {f = f} q n h = ap (λ r. elim r [ Ok x ↦ e | Err x ↦ x ]) (sym h ∙ q ∙ ap (λ p. ok_or p e) n)
