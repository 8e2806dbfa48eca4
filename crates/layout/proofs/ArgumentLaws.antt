-- Laws of a program's arguments in cells: each is read back from its kind and value.
use Rattle.std.specs.Prelude.{◌≡◌, refl, Bool, true, false, not, cond, ◌&&◌, ◌||◌, List, [], ◌∷◌, ℕ, zero, suc, pred, ◌+◌, ◌*◌, ◌-◌, ◌/◌, ◌%◌, ◌≤◌, ◌<◌, T, leb, ltb, eqb, length, get_or, ℤ, pos, negsuc, nat_abs}
use Rattle.std.proofs.Common.{sym, ap, ◌∙◌, subst, arith, leb→le, ltb→lt, lt-ltb, le-ltb, ne_eqb, leb-true}
use Rattle.std.proofs.lemmas.Bool.{lt-leb}
use Rattle.lists.specs.BoolLaws.{T-second}
use Rattle.machine.specs.Below.Limits as limit
use Rattle.machine.specs.Below.ListLaws.{T-left, T-right, all_among, all_head, all_tail, ahead-le, same_bytes-eq}
use Rattle.machine.specs.Below.Lists.{any, ahead, filled, all, bytes_equal, among}
use Rattle.machine.proofs.Below.CharacterLaws.{known-byte}
use Rattle.machine.specs.Below.Characters.{ranked, known}
use Rattle.machine.specs.Below.Instructions.{operation, operators, operator_of}
use Rattle.machine.specs.Below.Letters.{Letter, letters, letter_code, Var, indices, use_of}
use Rattle.machine.specs.Below.Letters.Letter.{A, B, C, D, E, I, N, P, Q, T as T-letter, Y, Z}
use Rattle.machine.specs.Below.Letters.Var.{expression, input, output, file}
use Rattle.machine.specs.Below.Program.{Arg, classes, Op, Program}
use Rattle.machine.specs.Below.Program.Arg.{nothing, letter, label, switch, class, text}
use Rattle.machine.specs.Below.Program.Op.{PRZESLIJ, CZYTAJ, PISZ, KOPIUJ, WSTAW, POBIERZ, SCHOWAJ, USTAW, ZAMIEN, UMIESC, USUN, SKRESL, RW, WK, MN, PP, NS, RZ, SKOCZ, WYKONAJ, SKOMI, SKOPL, WYMI, WYPL, SKONA, SKOIN, WYNA, WYIN, WROC, DODAJ, ODEJMIJ, MNOZ, DZIEL, SLOWO, LICZBA, ZBIJ, ROZBIJ, SZUKAJ, OMIN, COFNIJ, STOP}
use Rattle.machine.specs.Below.LanguageValues.{same_number, in_range}
use Rattle.machine.proofs.ValueLaws.{same_number-eq}
use Rattle.machine.specs.WellFormed.{good_text, kept_text, kept_number, ranged}
use Rattle.layout.specs.Bounds.{KeptText, ProgramOk}
use Rattle.layout.proofs.CellLaws.{uncode-code, found}
use Rattle.layout.specs.Cells.{code}
use Rattle.layout.specs.Table.{letter_place, class_mask, text_ref, number_ref, arg_cell, text_in, number_in, text_by, number_by, class_by, arg_by}

-- ---- operators and letters by their numbers

pub operator-back : (o : Op) → operator_of (operation o).number ≡ o
operator-back PRZESLIJ = refl
operator-back CZYTAJ = refl
operator-back PISZ = refl
operator-back KOPIUJ = refl
operator-back WSTAW = refl
operator-back POBIERZ = refl
operator-back SCHOWAJ = refl
operator-back USTAW = refl
operator-back ZAMIEN = refl
operator-back UMIESC = refl
operator-back USUN = refl
operator-back SKRESL = refl
operator-back RW = refl
operator-back WK = refl
operator-back MN = refl
operator-back PP = refl
operator-back NS = refl
operator-back RZ = refl
operator-back SKOCZ = refl
operator-back WYKONAJ = refl
operator-back SKOMI = refl
operator-back SKOPL = refl
operator-back WYMI = refl
operator-back WYPL = refl
operator-back SKONA = refl
operator-back SKOIN = refl
operator-back WYNA = refl
operator-back WYIN = refl
operator-back WROC = refl
operator-back DODAJ = refl
operator-back ODEJMIJ = refl
operator-back MNOZ = refl
operator-back DZIEL = refl
operator-back SLOWO = refl
operator-back LICZBA = refl
operator-back ZBIJ = refl
operator-back ROZBIJ = refl
operator-back SZUKAJ = refl
operator-back OMIN = refl
operator-back COFNIJ = refl
operator-back STOP = refl

pub letter-back : (l : Letter) → get_or letters (letter_place l) A ≡ l
letter-back A = refl
letter-back B = refl
letter-back C = refl
letter-back D = refl
letter-back E = refl
letter-back I = refl
letter-back N = refl
letter-back P = refl
letter-back Q = refl
letter-back T-letter = refl
letter-back Y = refl
letter-back Z = refl

all_get_d : {X : Type 0} (q : X → Bool) (d : X) → T (q d) → (xs : List X) → T (all q xs) → (k : ℕ) → T (q (get_or xs k d))
all_get_d q d z [] h k = z
all_get_d q d z (x ∷ xs) h zero = all_head q x xs h
all_get_d q d z (x ∷ xs) h (suc k) = all_get_d q d z xs (all_tail q x xs h) k

-- "Instructions (41)", numbered from 1
pub operator-range : (o : Op) → (0 < (operation o).number) × ((operation o).number ≤ 41)
operator-range o =
    let n : ℕ = (operation o).number in
    let numbered : Op → Bool = λ x. ltb 0 (operation x).number && leb (operation x).number 41 in
    let h : T (numbered o) = subst (λ x. T (numbered x)) (operator-back o) (all_get_d numbered STOP tt operators tt (pred n)) in
    (ltb→lt 0 n (T-left (ltb 0 n) (leb n 41) h), leb→le n 41 (T-right (ltb 0 n) (leb n 41) h))

pub operator-below : (o : Op) → (operation o).number < 64
operator-below o = omega (arith, operator-range o)

pub letter-most : (l : Letter) → letter_place l ≤ 12
letter-most l = ahead-le (λ x. eqb (letter_code l) (letter_code x)) letters

pub index-most : (v : Var) → indices v ≤ 32
index-most expression = omega arith
index-most input = omega arith
index-most output = omega arith
index-most file = omega arith

-- ---- classes

module _ (c : List ℕ) where
  class_of : (x y z w : Bool)
      → class_by c (cond x 1 0 + cond y 2 0 + cond z 4 0 + cond w 8 0)
      ≡ cond x (76 ∷ cond y (68 ∷ cond z (66 ∷ cond w (82 ∷ []) []) (cond w (82 ∷ []) [])) (cond z (66 ∷ cond w (82 ∷ []) []) (cond w (82 ∷ []) [])))
      (cond y (68 ∷ cond z (66 ∷ cond w (82 ∷ []) []) (cond w (82 ∷ []) [])) (cond z (66 ∷ cond w (82 ∷ []) []) (cond w (82 ∷ []) [])))
  class_of true true true true = refl
  class_of true true true false = refl
  class_of true true false true = refl
  class_of true true false false = refl
  class_of true false true true = refl
  class_of true false true false = refl
  class_of true false false true = refl
  class_of true false false false = refl
  class_of false true true true = refl
  class_of false true true false = refl
  class_of false true false true = refl
  class_of false true false false = refl
  class_of false false true true = refl
  class_of false false true false = refl
  class_of false false false true = refl
  class_of false false false false = refl

  pub class_back : (cs : List ℕ) → T (bytes_equal cs (classes cs)) → class_by c (class_mask cs) ≡ cs
  class_back cs h = class_of (among 76 cs) (among 68 cs) (among 66 cs) (among 82 cs) ∙ sym (same_bytes-eq cs (classes cs) h)

-- ---- kind and value

kind_of : (k v : ℕ) → k < 8 → (k + 8 * v) % 8 ≡ k
kind_of k v h = omega arith

argument_value : (k v : ℕ) → k < 8 → (k + 8 * v) / 8 ≡ v
argument_value k v h = omega arith

-- ---- references to the tables of texts and numbers

code-small : (z : ℤ) → nat_abs z ≤ limit.small → (8388592 ≤ code z) × (code z < 8388623)
unfolding code
code-small (pos n) h = omega arith
code-small (negsuc n) h = omega arith

known_some : (b : ℕ) → T (known b) → 0 < b
unfolding known
known_some b h = ltb→lt 0 b (all_among (λ n. ltb 0 n) ranked tt b h)

one_byte : (p : Program) (b : ℕ) → T (good_text (b ∷ []) && kept_text p (b ∷ [])) → (0 < b) × (b < 256)
one_byte p b h =
    let k = T-left (known b) true (T-left (known b && true) (leb 1 limit.item) (T-left (good_text (b ∷ [])) (kept_text p (b ∷ [])) h)) in
    (known_some b k, omega (arith, known-byte b k))

module _ (c : List ℕ) where
  text_by-place : (n : ℕ) → text_by c (256 + n) ≡ text_in c n
  text_by-place n = let e : 256 + n - 256 ≡ n = omega arith in rw (ne_eqb (256 + n) 0 (λ e. omega (arith, e)), le-ltb (256 + n) 256 (omega arith), e)

  number-by-place : (n : ℕ) → number_by c (31 + n) ≡ number_in c n
  number-by-place n = let e : 31 + n - 31 ≡ n = omega arith in rw (le-ltb (31 + n) 31 (omega arith), e)

  number-by-small : (z : ℤ) → nat_abs z ≤ limit.small → number_by c (code z - 8388592) ≡ z
  number-by-small z h =
      let k = code-small z h in
      let e : code z - 8388592 + 8388592 ≡ code z = omega (arith, k) in
      rw (lt-ltb (code z - 8388592) 31 (omega (arith, k)), e) (uncode-code z (omega arith))

module _ (p : Program) (c : List ℕ) (texts-read : (k : ℕ) → k < length p.texts → text_in c k ≡ get_or p.texts k [])
    (numbers-read : (k : ℕ) → k < length p.numbers → number_in c k ≡ get_or p.numbers k (pos 0)) where
  pub text-back : (t : List ℕ) → KeptText p t → text_by c (text_ref p t) ≡ t
  text-back [] h = refl
  text-back (b ∷ []) h =
      let k = one_byte p b h in
      rw (ne_eqb b 0 (λ e. omega (arith, k.0)), lt-ltb b 256 k.1)
  text-back (a ∷ b ∷ t) h =
      let w : List ℕ = a ∷ b ∷ t in
      let long : leb (length w) 1 ≡ false = lt-leb (length w) 1 (omega arith) in
      let k : T (leb (length w) 1 || any (bytes_equal w) p.texts) = T-right (good_text w) (kept_text p w) h in
      let r = found (bytes_equal w) [] p.texts (subst (λ x. T (x || any (bytes_equal w) p.texts)) long k) in
      let n : ℕ = ahead (bytes_equal w) p.texts in
      rw long (text_by-place c n ∙ texts-read n r.1 ∙ sym (same_bytes-eq w (get_or p.texts n []) r.0))

  pub number-back : (z : ℤ) → T (in_range z && kept_number p z) → number_by c (number_ref p z) ≡ z
  number-back z h = go (leb (nat_abs z) limit.small) refl (T-right (in_range z) (kept_number p z) h)
    where
      n : ℕ
      n = ahead (same_number z) p.numbers

      go : (b : Bool) → leb (nat_abs z) limit.small ≡ b → T (b || any (same_number z) p.numbers) → number_by c (cond b (code z - 8388592) (31 + n)) ≡ z
      go true e t = number-by-small c z (leb-true (nat_abs z) limit.small e)
      go false e t =
          let r = found (same_number z) (pos 0) p.numbers t in
          number-by-place c n ∙ numbers-read n r.1 ∙ sym (same_number-eq z (get_or p.numbers n (pos 0)) r.0)

  -- an argument is read back from its cell
  pub arg-back : (a : Arg) → T (ranged p a) → arg_by c (arg_cell p a % 8) (arg_cell p a / 8) ≡ a
  arg-back nothing h = refl
  arg-back (letter l n) h =
      let m : ℕ = indices (use_of l).var in
      let b : n ≤ m = leb→le n m (T-right (ltb 0 n) (leb n m) h) in
      let v : ℕ = n + 64 * letter_place l in
      let e : v / 64 ≡ letter_place l = omega (arith, index-most (use_of l).var) in
      let f : v % 64 ≡ n = omega (arith, index-most (use_of l).var) in
      rw (kind_of 1 v (omega arith), argument_value 1 v (omega arith), e, f, letter-back l)
  arg-back (label k) h = rw (kind_of 2 k (omega arith), argument_value 2 k (omega arith))
  arg-back (switch k) h = rw (kind_of 3 k (omega arith), argument_value 3 k (omega arith))
  arg-back (class cs) h =
      let v : ℕ = class_mask cs in
      rw (kind_of 4 v (omega arith), argument_value 4 v (omega arith)) (ap class (class_back c cs (T-right (filled cs) (bytes_equal cs (classes cs)) h)))
  arg-back (text t) h =
      let v : ℕ = text_ref p t in
      rw (kind_of 5 v (omega arith), argument_value 5 v (omega arith)) (ap text (text-back t (T-second (not (filled t)) (good_text t && kept_text p t) h)))
  arg-back (Arg.number z) h =
      let v : ℕ = number_ref p z in
      rw (kind_of 6 v (omega arith), argument_value 6 v (omega arith)) (ap Arg.number (number-back z h))

-- ---- the cells are small

pub bit-most : (b : Bool) (n : ℕ) → cond b n 0 ≤ n
bit-most true n = omega arith
bit-most false n = omega arith

pub class_mask-most : (cs : List ℕ) → class_mask cs ≤ 15
class_mask-most cs = omega (arith, bit-most (among 76 cs) 1, bit-most (among 68 cs) 2, bit-most (among 66 cs) 4, bit-most (among 82 cs) 8)

module _ (p : Program) where
  pub text_ref-below : (t : List ℕ) → KeptText p t → text_ref p t < 256 + length p.texts
  text_ref-below [] h = omega arith
  text_ref-below (b ∷ []) h = omega (arith, one_byte p b h)
  text_ref-below (a ∷ b ∷ t) h =
      let w : List ℕ = a ∷ b ∷ t in
      let long : leb (length w) 1 ≡ false = lt-leb (length w) 1 (omega arith) in
      let k : T (leb (length w) 1 || any (bytes_equal w) p.texts) = T-right (good_text w) (kept_text p w) h in
      rw long (omega (arith, (found (bytes_equal w) [] p.texts (subst (λ x. T (x || any (bytes_equal w) p.texts)) long k)).1))

  pub number_ref-most : (z : ℤ) → number_ref p z ≤ 31 + length p.numbers
  number_ref-most z = go (leb (nat_abs z) limit.small) refl
    where
      go : (b : Bool) → leb (nat_abs z) limit.small ≡ b → cond b (code z - 8388592) (31 + ahead (same_number z) p.numbers) ≤ 31 + length p.numbers
      go true e = omega (arith, code-small z (leb-true (nat_abs z) limit.small e))
      go false e = omega (arith, ahead-le (same_number z) p.numbers)

  pub arg_cell-below : ProgramOk p → (a : Arg) → T (ranged p a) → arg_cell p a < 8192
  arg_cell-below k nothing h = omega arith
  arg_cell-below k (letter l n) h =
      let m : ℕ = indices (use_of l).var in
      let b : n ≤ m = leb→le n m (T-right (ltb 0 n) (leb n m) h) in
      omega (arith, index-most (use_of l).var, letter-most l)
  arg_cell-below k (label j) h = omega (arith, k.facts.labels_few, ltb→lt j (length p.labels) h)
  arg_cell-below k (switch j) h = omega (arith, k.facts.switches_few, ltb→lt j (length p.switches) h)
  arg_cell-below k (class cs) h = omega (arith, class_mask-most cs)
  arg_cell-below k (text t) h = omega (arith, k.facts.texts_few, text_ref-below t (T-second (not (filled t)) (good_text t && kept_text p t) h))
  arg_cell-below k (Arg.number z) h = omega (arith, k.facts.numbers_few, number_ref-most z)
