-- What is read of a store without faults has none: components, characters, decimal words, and the address before a pointer.
use Rattle.std.specs.Prelude.{◌≡◌, Bool, true, false, List, [], ◌∷◌, ◌++◌, map, T, leb, ltb, length, get_or, take, ℤ, pos, negsuc, nat_abs}
use Rattle.std.proofs.Math.Path.{refl}
use Prim.Native.Nat.{ℕ, zero, suc, pred, ◌+◌, ◌-◌, ◌≤◌, ◌<◌, ◌/◌, ◌%◌}
use native.Mathlib.Omega.{arith}
use Rattle.std.proofs.Math.Decide.{dec_lt}
use Rattle.std.proofs.Common.{leb→le, ltb-true}
use Rattle.language.specs.Below.Lists.{total, all, if_any, joined}
use Rattle.language.specs.Below.ListLaws.{T-left, all_head, all_tail, ahead-le, none-fail, total-append, total-split, total-at, total-map}
use Rattle.language.specs.Below.Characters.{known}
use Rattle.language.specs.Limits as limit
use Rattle.language.specs.Letters.{Var, Reading, use_of}
use Rattle.language.specs.Letters.Var.{expression, input, output, file}
use Rattle.language.specs.Letters.Reading.{one, count, any_of, whole}
use Rattle.language.specs.Program.{Arg, Program}
use Rattle.language.specs.Program.Arg.{nothing, letter, label, switch, class, text}
use Rattle.language.specs.Values.{Component, Record, Store, Inputs, empty_file, chars, digits, decimal, in_range}
use Rattle.language.specs.Values.Component.{word, address}
use Rattle.machine.specs.Arguments.{place, expr, file_of, records, next_parts, unread, first, char, read_by, side, Until, taken, on_chars, reach}
use Rattle.machine.specs.Arguments.Until.{everything, number_of, up_to}
use Rattle.machine.specs.Changes.{address_of_last, recorded}
use Rattle.machine.specs.WellFormed.{good_word, good_text, kept_text, kept_number, ranged, void, strange, faults, parts_faults, record_faults, store_faults}
use Rattle.machine.specs.Addresses.{equal_count}
use Rattle.machine.specs.Keeps.{Clean, Faultless, Enough, Sound}
use Rattle.machine.proofs.AddressLaws.{equal-self}
use Rattle.machine.proofs.KeepLaws.{sound-given}
use Rattle.machine.proofs.ChangeLaws.{clean-expr}

-- Characters

word-faults : (w : List ℕ) → T (good_word w) → void w + total strange w ≡ 0
word-faults [] h = absurd h
word-faults (x ∷ w) h = omega (arith, none-fail known (x ∷ w) h)

pub chars-known : (l : ℕ) (x : Component) → faults l x ≡ 0 → total strange (chars x) ≡ 0
chars-known l (word w) h = omega arith
chars-known l (Component.number z) h = refl
chars-known l (address n) h = refl

pub first-known : (l : ℕ) (xs : List Component) → Clean l xs → total strange (chars (first xs)) ≡ 0
first-known l [] h = refl
first-known l (x ∷ xs) h = chars-known l x (omega arith)

pub joined-known : (l : ℕ) (xs : List Component) → Clean l xs → total strange (joined (map chars xs)) ≡ 0
joined-known l [] h = refl
joined-known l (x ∷ xs) h =
    omega (arith, total-append strange (chars x) (joined (map chars xs)), chars-known l x (omega arith), joined-known l xs (omega arith))

pub take-known : (k : ℕ) (w : List ℕ) → total strange w ≡ 0 → total strange (take k w) ≡ 0
take-known k w h = omega (arith, total-split strange k w)

-- Components

pub clean-take : (l k : ℕ) (xs : List Component) → Clean l xs → Clean l (take k xs)
clean-take l k xs h = omega (arith, total-split (faults l) k xs)

pub clean-chars : (l : ℕ) (w : List ℕ) → total strange w ≡ 0 → Clean l (map char w)
clean-chars l [] h = refl
clean-chars l (x ∷ w) h = omega (arith, clean-chars l w (omega arith))

pub clean-number : (l : ℕ) (z : ℤ) → T (in_range z) → Clean l (Component.number z ∷ [])
clean-number l z h = omega (arith, leb→le (nat_abs z) limit.size h)

pub clean-numbers : (l : ℕ) (zs : List ℤ) → T (all in_range zs) → Clean l (map Component.number zs)
clean-numbers l [] h = refl
clean-numbers l (z ∷ zs) h = omega (arith, clean-number l z (all_head in_range z zs h), clean-numbers l zs (all_tail in_range z zs h))

-- Decimal words

digit-known : (n : ℕ) → n < 10 → strange (48 + n) ≡ 0
unfolding known
digit-known zero h = refl
digit-known (suc zero) h = refl
digit-known (suc (suc zero)) h = refl
digit-known (suc (suc (suc zero))) h = refl
digit-known (suc (suc (suc (suc zero)))) h = refl
digit-known (suc (suc (suc (suc (suc zero))))) h = refl
digit-known (suc (suc (suc (suc (suc (suc zero)))))) h = refl
digit-known (suc (suc (suc (suc (suc (suc (suc zero))))))) h = refl
digit-known (suc (suc (suc (suc (suc (suc (suc (suc zero)))))))) h = refl
digit-known (suc (suc (suc (suc (suc (suc (suc (suc (suc zero))))))))) h = refl
digit-known (suc (suc (suc (suc (suc (suc (suc (suc (suc (suc n)))))))))) h = absurd (omega arith)

digits-known : (k n : ℕ) → total strange (digits k n) ≡ 0
digits-known zero n = refl
digits-known (suc k) n = go (ltb n 10) refl (digits-known k (n / 10))
  where
    go : (b : Bool) → ltb n 10 ≡ b → total strange (digits k (n / 10)) ≡ 0
        → total strange (elim b [ true ↦ (48 + n) ∷ [] | false ↦ digits k (n / 10) ++ ((48 + n % 10) ∷ []) ]) ≡ 0
    go true e h = omega (arith, digit-known n (ltb-true n 10 e))
    go false e h = omega (arith, total-append strange (digits k (n / 10)) ((48 + n % 10) ∷ []), digit-known (n % 10) (omega arith))

digits-filled : (k n : ℕ) → void (digits (suc k) n) ≡ 0
digits-filled k n = go (ltb n 10) (digits k (n / 10))
  where
    go : (b : Bool) (xs : List ℕ) → void {X = ℕ} (elim b [ true ↦ (48 + n) ∷ [] | false ↦ xs ++ ((48 + n % 10) ∷ []) ]) ≡ 0
    go true xs = refl
    go false [] = refl
    go false (x ∷ xs) = refl

sign-known : strange 45 ≡ 0
unfolding known
sign-known = refl

pub clean-decimal : (l : ℕ) (z : ℤ) → Clean l (word (decimal z) ∷ [])
clean-decimal l (pos n) = omega (arith, digits-known 7 n, digits-filled 6 n)
clean-decimal l (negsuc n) = omega (arith, digits-known 7 (suc n), sign-known)

-- Records

pub copied-faults : (l k : ℕ) (rs : List Record) → total (record_faults l) rs ≡ 0 → total (parts_faults l) (map (λ r. r.parts) (take k rs)) ≡ 0
copied-faults l k rs h = omega (arith, total-map (parts_faults l) (λ r. r.parts) (take k rs), total-split (record_faults l) k rs)

-- each component a record of its own
pub alone-faults : (l : ℕ) (xs : List Component) → Clean l xs → total (parts_faults l) (map (λ x. x ∷ []) xs) ≡ 0
alone-faults l [] h = refl
alone-faults l (x ∷ xs) h = omega (arith, alone-faults l xs (omega arith))

clean-next : (l : ℕ) (rs : List Record) → total (record_faults l) rs ≡ 0 → Clean l (if_any [] (λ r. r.parts) rs)
clean-next l [] h = refl
clean-next l (r ∷ rs) h = omega arith

-- Tests take at most what is there

taken-le : {X : Type 0} (u : Until X) (xs : List X) → (taken u xs).0 ≤ length xs
taken-le everything xs = omega arith
taken-le (number_of n) xs = omega arith
taken-le (up_to p) xs = ahead-le p xs

module _ (ins : Inputs) where
  pub reach-enough : (v : Var) (s : Store) (a c : Arg) → Enough ins v s a (reach ins s v a c).0
  reach-enough expression s a c = tt
  reach-enough input s a c = taken-le (on_chars ins s c) (unread ins s a)
  reach-enough output s a c = tt
  reach-enough file s a c = tt

  -- the records after the pointer
  pub clean_after : (s : Store) (a : Arg) → Faultless ins s → total (record_faults s.last) (file_of s a).after ≡ 0
  unfolding store_faults
  clean_after s a h =
      let g : Record → ℕ = record_faults s.last in
      omega (
        arith,
        total-append g (file_of s a).before (file_of s a).after,
        total-at (λ f. total g (records f)) empty_file refl s.files (pred (place a)),
      )

  -- inputs of the 87 characters
  pub unread-known : (s : Store) (a : Arg) → total (total strange) ins ≡ 0 → total strange (unread ins s a) ≡ 0
  unread-known s a h =
      let w = get_or ins (pred (place a)) [] in
      omega (arith, total-split strange (get_or s.places (pred (place a)) 0) w, total-at (total strange) [] refl ins (pred (place a)))

  -- what an argument offers
  module _ (p : Program) (i : total (total strange) ins ≡ 0) (s : Store) (h : Faultless ins s) where
    clean-read : (a : Arg) (v : Var) (r : Reading) → Clean s.last (read_by ins s a v r)
    clean-read a expression one = clean-take s.last 1 (expr s a) (clean-expr ins s a h)
    clean-read a expression count = clean-take s.last 1 (expr s a) (clean-expr ins s a h)
    clean-read a expression any_of = clean-expr ins s a h
    clean-read a expression whole = clean-expr ins s a h
    clean-read a input r = clean-chars s.last (take 1 (unread ins s a)) (take-known 1 (unread ins s a) (unread-known s a i))
    clean-read a output r = refl
    clean-read a file r = clean-take s.last 1 (next_parts (file_of s a)) (clean-next s.last (file_of s a).after (clean_after s a h))

    pub clean-side : (a : Arg) → T (ranged p a) → Clean s.last (side ins s a)
    clean-side nothing g = refl
    clean-side (letter l n) g = clean-read (letter l n) (use_of l).var (use_of l).reading
    clean-side (label n) g = refl
    clean-side (switch n) g = refl
    clean-side (class cs) g = refl
    clean-side (text t) g = omega (arith, word-faults t (T-left (good_word t) (leb (length t) limit.item) (T-left (good_text t) (kept_text p t) g)))
    clean-side (Arg.number z) g = clean-number s.last z (T-left (in_range z) (kept_number p z) g)

  -- the address of the record before the pointer is given

  none_past : (l : ℕ) (rs : List Record) → ((n : ℕ) → l < n → total (λ r. equal_count n r.addr) rs ≡ 0) → total (λ r. r.addr - l) rs ≡ 0
  none_past l [] h = refl
  none_past l (r ∷ rs) h = go (dec_lt l r.addr) (none_past l rs (λ n k. omega (arith, h n k)))
    where
      go : Dec (l < r.addr) → total (λ r. r.addr - l) rs ≡ 0 → (r.addr - l) + total (λ r. r.addr - l) rs ≡ 0
      go (yes g) e = absurd (omega (arith, h r.addr g, equal-self r.addr))
      go (no g) e = omega arith

  last-bounded : (l n : ℕ) (rs : List Record) → address_of_last n rs - l ≤ (n - l) + total (λ r. r.addr - l) rs
  last-bounded l n [] = omega arith
  last-bounded l n (r ∷ rs) = omega (arith, last-bounded l r.addr rs)

  pub clean-last : (s : Store) (a : Arg) → Sound ins s → Clean s.last (address (address_of_last 0 (file_of s a).before) ∷ [])
  unfolding recorded
  clean-last s a h = omega (arith, last-bounded s.last 0 (file_of s a).before, none_past s.last (file_of s a).before inside)
    where
      inside : (n : ℕ) → s.last < n → total (λ r. equal_count n r.addr) (file_of s a).before ≡ 0
      inside n k =
          let g : Record → ℕ = λ r. equal_count n r.addr in
          omega (
            arith,
            sound-given ins h n k,
            total-append g (file_of s a).before (file_of s a).after,
            total-at (λ f. total g (records f)) empty_file refl s.files (pred (place a)),
          )
