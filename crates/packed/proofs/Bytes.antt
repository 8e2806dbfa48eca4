-- Characters four to a cell: a cell and four bytes compared, a word compared cell by cell, and a word copied cell by cell.
use mathlib.Core.Path.{◌≡◌, refl, sym, ap, ap₂, ◌∙◌}
use mathlib.Core.Bool.{Bool, true, false, ◌&&◌, and-false}
use mathlib.Core.List.{List, [], ◌∷◌, ◌++◌, append_assoc}
use Prim.Native.Nat.{ℕ, zero, suc, ◌+◌, ◌-◌, ◌*◌, ◌/◌, ◌%◌, ◌≤◌, ◌<◌, min}
use native.Mathlib.Nat.{add-mul-mod_self_left, mod-eq_of_lt, sub-zero}
use native.Mathlib.Numerals.{add-one}
use native.Mathlib.Decide.{ℕ_discrete}
use native.Mathlib.Omega.{arith}
use lib.Dec.{eqb}
use lib.ListN.{length, get_or, take, drop, length-take, length-drop}
use lib.Seq.{take_all, take_at, take-add, drop_at, drop-nil, drop-drop, drop-cons, take-append-le, length-take-le}
use borrow.Author.Tests.{eq-eqb, ne_eqb}
use Rattle.std.specs.Int.{w32, to_le_bytes}
use lib.Pointwise.{pointwise}
use Rattle.std.proofs.lemmas.List.{drop_all, take_min}
use Rattle.cells.specs.Cells.{pasted}
use Rattle.cells.specs.Below.Lists.{bytes_equal}
use Rattle.cells.specs.Below.ListLaws.{other_length}
use Rattle.cells.specs.Below.LayoutCells.{four, unfours}
use Rattle.packed.specs.Packed.{row_chars, Copied}

-- ---- a cell and bytes

-- what `==` of two rows of bytes tells
pointwise-is : (v w : List ℕ) → pointwise eqb v w ≡ bytes_equal v w
pointwise-is v w = refl

pub le_bytes-is : (x : ℕ) → x < 4294967296 → to_le_bytes w32 x ≡ unfours (x ∷ [])
unfolding unfours
le_bytes-is x h = let e : x / 16777216 % 256 ≡ x / 16777216 = omega arith in rw e

low : (b m : ℕ) → b < 256 → (b + 256 * m) % 256 ≡ b
low b m h = add-mul-mod_self_left b 256 m ∙ mod-eq_of_lt h

pair_same : (b w m n : ℕ) → b < 256 → w < 256 → eqb (b + 256 * m) (w + 256 * n) ≡ (eqb b w && eqb m n)
pair_same b w m n h k = go (ℕ_discrete b w) (ℕ_discrete m n)
  where
    go : Dec (b ≡ w) → Dec (m ≡ n) → eqb (b + 256 * m) (w + 256 * n) ≡ (eqb b w && eqb m n)
    go (yes e) (yes f) = rw (eq-eqb b w e, eq-eqb m n f) (eq-eqb (b + 256 * m) (w + 256 * n) (omega arith))
    go (yes e) (no f) = rw (eq-eqb b w e, ne_eqb m n f) (ne_eqb (b + 256 * m) (w + 256 * n) (λ q. f (omega arith)))
    go (no e) d = rw (ne_eqb b w e) (ne_eqb (b + 256 * m) (w + 256 * n) (λ q. e (sym (low b m h) ∙ ap (λ (y : ℕ). y % 256) q ∙ low w n k)))

module _ (x v₀ v₁ v₂ v₃ : ℕ) (x_Fits : x < 4294967296) (h₀ : v₀ < 256) (h₁ : v₁ < 256) (h₂ : v₂ < 256) (h₃ : v₃ < 256) where
  abbrev b₀ : ℕ
  b₀ = x % 256

  abbrev b₁ : ℕ
  b₁ = x / 256 % 256

  abbrev b₂ : ℕ
  b₂ = x / 65536 % 256

  abbrev b₃ : ℕ
  b₃ = x / 16777216

  pub same-four : eqb x (v₀ + 256 * v₁ + 65536 * v₂ + 16777216 * v₃) ≡ (eqb b₀ v₀ && (eqb b₁ v₁ && (eqb b₂ v₂ && eqb b₃ v₃)))
  same-four =
      let e : x ≡ b₀ + 256 * (b₁ + 256 * (b₂ + 256 * b₃)) = omega arith in
      let f : v₀ + 256 * v₁ + 65536 * v₂ + 16777216 * v₃ ≡ v₀ + 256 * (v₁ + 256 * (v₂ + 256 * v₃)) = omega arith in
      ap₂ eqb e f ∙ pair_same b₀ v₀ (b₁ + 256 * (b₂ + 256 * b₃)) (v₁ + 256 * (v₂ + 256 * v₃)) (omega arith) h₀
      ∙ ap (λ (z : Bool). eqb b₀ v₀ && z) (pair_same b₁ v₁ (b₂ + 256 * b₃) (v₂ + 256 * v₃) (omega arith) h₁ ∙ ap (λ (z : Bool). eqb b₁ v₁ && z) (pair_same b₂ v₂ b₃ v₃ (omega arith) h₂))

-- ---- a word from a place on

pub next-byte : (w : List ℕ) (k : ℕ) → k < length w → drop k w ≡ get_or w k 0 ∷ drop (k + 1) w
next-byte w k h = rw add-one (drop-cons w k 0 h)

next-four : (w : List ℕ) (k : ℕ) → k + 4 ≤ length w
    → drop k w ≡ get_or w k 0 ∷ get_or w (k + 1) 0 ∷ get_or w (k + 2) 0 ∷ get_or w (k + 3) 0 ∷ drop (k + 4) w
next-four w k h =
    let e₂ : k + 1 + 1 ≡ k + 2 = omega arith in
    let e₃ : k + 2 + 1 ≡ k + 3 = omega arith in
    let e₄ : k + 3 + 1 ≡ k + 4 = omega arith in
    rw (next-byte w k (omega arith), next-byte w (k + 1) (omega arith), e₂, next-byte w (k + 2) (omega arith), e₃, next-byte w (k + 3) (omega arith), e₄)

-- ---- a word compared with cells

and-four : (a b c d r : Bool) → (a && (b && (c && (d && r)))) ≡ ((a && (b && (c && d))) && r)
and-four true true true d r = refl
and-four true true false d r = refl
and-four true false c d r = refl
and-four false b c d r = refl

cell-step : (x v₀ v₁ v₂ v₃ n : ℕ) (r ws : List ℕ) → x < 4294967296 → v₀ < 256 → v₁ < 256 → v₂ < 256 → v₃ < 256
    → bytes_equal (take (suc (suc (suc (suc n)))) (unfours (x ∷ r))) (v₀ ∷ v₁ ∷ v₂ ∷ v₃ ∷ ws)
    ≡ (eqb x (v₀ + 256 * v₁ + 65536 * v₂ + 16777216 * v₃) && bytes_equal (take n (unfours r)) ws)
unfolding unfours
cell-step x v₀ v₁ v₂ v₃ n r ws h h₀ h₁ h₂ h₃ =
    and-four (eqb (x % 256) v₀) (eqb (x / 256 % 256) v₁) (eqb (x / 65536 % 256) v₂) (eqb (x / 16777216) v₃) (bytes_equal (take n (unfours r)) ws)
    ∙ ap (λ (z : Bool). z && bytes_equal (take n (unfours r)) ws) (sym (same-four x v₀ v₁ v₂ v₃ h h₀ h₁ h₂ h₃))

-- whether what is left of w from cell q of l on is what those cells say
abbrev pub left_same : List ℕ → List ℕ → ℕ → Bool
left_same l w q = bytes_equal (take (length w - 4 * q) (unfours (drop q l))) (drop (4 * q) w)

pub same_start : (l w : List ℕ) → bytes_equal (take (length w) (unfours l)) w ≡ left_same l w 0
same_start l w = rw (sub-zero (length w))

module _ (l w : List ℕ) (bytes : (j : ℕ) → get_or w j 0 < 256) where
  same_turn : (q : ℕ) → q < length l → 4 * q + 4 ≤ length w → get_or l q 0 < 4294967296
      → left_same l w q ≡ (eqb (get_or l q 0) (four (drop (4 * q) w)) && left_same l w (q + 1))
  same_turn q h k fits =
      let n : ℕ = length w - 4 * (q + 1) in
      let e : length w - 4 * q ≡ suc (suc (suc (suc n))) = omega arith in
      let f : 4 * q + 4 ≡ 4 * (q + 1) = omega arith in
      let d : drop q l ≡ get_or l q 0 ∷ drop (q + 1) l = next-byte l q h in
      rw (e, d, next-four w (4 * q) k, f)
      (cell-step (get_or l q 0) (get_or w (4 * q) 0) (get_or w (4 * q + 1) 0) (get_or w (4 * q + 2) 0) (get_or w (4 * q + 3) 0) n (drop (q + 1) l) (drop (4 * (q + 1)) w)
      fits (bytes (4 * q)) (bytes (4 * q + 1)) (bytes (4 * q + 2)) (bytes (4 * q + 3)))

  module _ (q : ℕ) (h : q < length l) (fits : get_or l q 0 < 4294967296) where
    pub same-on : 4 * q + 4 ≤ length w → get_or l q 0 ≡ four (drop (4 * q) w) → left_same l w q ≡ left_same l w (q + 1)
    same-on k e = rw (eq-eqb (get_or l q 0) (four (drop (4 * q) w)) e) at (same_turn q h k fits)

    pub same-off : 4 * q + 4 ≤ length w → (get_or l q 0 ≡ four (drop (4 * q) w) → ⊥) → left_same l w q ≡ false
    same-off k e = rw (ne_eqb (get_or l q 0) (four (drop (4 * q) w)) e) at (same_turn q h k fits)

    pub same_rest : 4 * q ≤ length w → length w < 4 * q + 4 → left_same l w q ≡ bytes_equal (take (length w - 4 * q) (unfours (get_or l q 0 ∷ []))) (drop (4 * q) w)
    unfolding unfours
    same_rest a b =
        let d : drop q l ≡ get_or l q 0 ∷ drop (q + 1) l = next-byte l q h in
        rw d (ap (λ (z : List ℕ). bytes_equal z (drop (4 * q) w)) (take-append-le (length w - 4 * q) (unfours (get_or l q 0 ∷ [])) (unfours (drop (q + 1) l)) (omega arith)))

  -- what is found at fault behind cell q is at fault in the whole
  pub same-wrong : (q : ℕ) → q ≤ length l → 4 * q ≤ length w → ((j : ℕ) → j < length l → get_or l j 0 < 4294967296) → left_same l w q ≡ false → left_same l w 0 ≡ false
  same-wrong zero h k fits e = e
  same-wrong (suc q) h k fits e = same-wrong q (omega arith) (omega arith) fits (same_turn q (omega arith) (omega arith) (fits q (omega arith)) ∙ rw (add-one q, e) (and-false (eqb (get_or l q 0) (four (drop (4 * q) w)))))

  pub same_end : (q : ℕ) → 4 * q ≡ length w → left_same l w q ≡ true
  same_end q e = let z : length w - 4 * q ≡ 0 = omega arith in rw (z, drop_all (4 * q) w (omega arith))

-- ---- a word compared with a row of 15 cells, from its end on
module _ (r : List ℕ) (long : length r ≡ 15) (cells : (j : ℕ) → get_or r j 0 < 4294967296) (w : List ℕ) (bytes : (j : ℕ) → get_or w j 0 < 256) (short : length w ≤ 60) where
  abbrev whole : Bool
  whole = bytes_equal (row_chars r (length w)) w

  pub end-wrong : (q : ℕ) → 4 * q ≤ length w → left_same r w q ≡ false → false ≡ whole
  end-wrong q h e = sym (same_start r w ∙ same-wrong r w bytes q (omega (arith, long)) h (λ j l. cells j) e)

  pub end-right : (q : ℕ) → q ≡ 0 → left_same r w q ≡ true → true ≡ whole
  end-right q z e = sym (same_start r w ∙ ap (left_same r w) (sym z) ∙ e)

  module _ (q : ℕ) (h : 4 * q + 4 ≤ length w) (x : ℕ) (is : x ≡ four (drop (4 * q) w)) where
    there : q < length r
    there = omega (arith, long)

    pub cell-wrong : (get_or r q 0 ≡ x → ⊥) → false ≡ whole
    cell-wrong e = end-wrong q (omega arith) (same-off r w bytes q there (cells q) h (λ z. e (z ∙ sym is)))

    pub cell-right : get_or r q 0 ≡ x → left_same r w (q + 1) ≡ true → left_same r w q ≡ true
    cell-right e f = same-on r w bytes q there (cells q) h (e ∙ is) ∙ f

-- ---- characters, cut to those that there are

length-unfours : (l : List ℕ) → length (unfours l) ≡ 4 * length l
unfolding unfours
length-unfours [] = refl
length-unfours (x ∷ l) = omega (arith, length-unfours l)

module _ (r : List ℕ) (long : length r ≡ 15) where
  sixty : length (unfours r) ≡ 60
  sixty = length-unfours r ∙ ap (λ (n : ℕ). 4 * n) long

  pub chars-length : (n : ℕ) → length (row_chars r n) ≡ min n 60
  chars-length n = length-take n (unfours r) ∙ ap (min n) sixty

  pub chars-cut : (n : ℕ) → row_chars r n ≡ row_chars r (min n 60)
  chars-cut n = sym (take_min n (unfours r)) ∙ ap (λ (k : ℕ). row_chars r (min n k)) sixty

  pub spells-other : (n m : ℕ) (w : List ℕ) → m ≡ min n 60 → (m ≡ length w → ⊥) → false ≡ bytes_equal (row_chars r n) w
  spells-other n m w e h = sym (other_length (row_chars r n) w (λ z. h (e ∙ sym (chars-length n) ∙ z)))

  pub spells-same : (n m : ℕ) (w : List ℕ) → m ≡ min n 60 → m ≡ length w → bytes_equal (row_chars r (length w)) w ≡ bytes_equal (row_chars r n) w
  spells-same n m w e h = ap (λ (l : List ℕ). bytes_equal l w) (ap (row_chars r) (sym h ∙ e) ∙ sym (chars-cut n))

-- ---- a word copied from cells

-- the list d after the first n bytes of the cell x were put at index k
pub put-bytes : (d z b : List ℕ) (k n x : ℕ) → x < 4294967296 → n ≤ 4 → b ≡ to_le_bytes w32 x → z ≡ pasted d k (take n b) → z ≡ take k d ++ (take n (unfours (x ∷ [])) ++ drop (k + n) d)
put-bytes d z b k n x h m e f =
    let g : b ≡ unfours (x ∷ []) = e ∙ le_bytes-is x h in
    let l : length (take n (unfours (x ∷ []))) ≡ n = length-take-le n (unfours (x ∷ [])) (rw (length-unfours (x ∷ [])) m) in
    f ∙ rw (g, l)

pub put_bytes : (d z b : List ℕ) (k x : ℕ) → x < 4294967296 → b ≡ to_le_bytes w32 x → z ≡ pasted d k b → z ≡ take k d ++ (unfours (x ∷ []) ++ drop (k + 4) d)
put_bytes d z b k x h e f = f ∙ rw (e ∙ le_bytes-is x h, length-unfours (x ∷ []))

-- as many of its first bytes as are left of the word w from k on, and these
pub bytes-same : (w b : List ℕ) (k x : ℕ) (r : Bool) → x < 4294967296 → b ≡ to_le_bytes w32 x → r ≡ pointwise eqb (take (length w - k) b) (take (length w - k) (drop k w))
    → r ≡ bytes_equal (take (length w - k) (unfours (x ∷ []))) (drop k w)
bytes-same w b k x r h e f =
    let l : length (drop k w) ≤ length w - k = omega (arith, length-drop k w) in
    f ∙ rw (e ∙ le_bytes-is x h, take_all (length w - k) (drop k w) l) (pointwise-is _ (drop k w))

unfours-drop : (q : ℕ) (l : List ℕ) → drop (4 * q) (unfours l) ≡ unfours (drop q l)
unfolding unfours
unfours-drop zero l = refl
unfours-drop (suc q) [] = drop-nil (4 * suc q)
unfours-drop (suc q) (x ∷ l) = let e : 4 * suc q ≡ suc (suc (suc (suc (4 * q)))) = omega arith in rw e (unfours-drop q l)

-- n bytes of a cell are those from cell q on
bytes_at : (l : List ℕ) (q n : ℕ) → q < length l → n ≤ 4 → take n (unfours (get_or l q 0 ∷ [])) ≡ take n (drop (4 * q) (unfours l))
unfolding unfours
bytes_at l q n h k =
    let d : drop q l ≡ get_or l q 0 ∷ drop (q + 1) l = next-byte l q h in
    sym (take-append-le n (unfours (get_or l q 0 ∷ [])) (unfours (drop (q + 1) l)) k) ∙ ap (λ (z : List ℕ). take n (unfours z)) (sym d)
    ∙ ap (take n) (sym (unfours-drop q l))

all-bytes_at : (l : List ℕ) (q : ℕ) → q < length l → unfours (get_or l q 0 ∷ []) ≡ take 4 (drop (4 * q) (unfours l))
unfolding unfours
all-bytes_at l q h = bytes_at l q 4 h (omega arith)

-- the first a bytes of s stand in front of o
abbrev pub fronted : List ℕ → List ℕ → ℕ → List ℕ
fronted s o a = take a s ++ drop a o

grown : (s o : List ℕ) (a n : ℕ) → a + n ≤ length s → a + n ≤ length o
    → take a (fronted s o a) ++ (take n (drop a s) ++ drop (a + n) (fronted s o a)) ≡ fronted s o (a + n)
grown s o a n h k =
    let e : length (take a s) ≡ a = length-take-le a s (omega arith) in
    let f : take a (fronted s o a) ≡ take a s = take_at (take a s) (drop a o) a e in
    let g : drop (a + n) (fronted s o a) ≡ drop (a + n) o =
    sym (drop-drop n a (fronted s o a)) ∙ ap (drop n) (drop_at (take a s) (drop a o) a e) ∙ drop-drop n a o in
    rw (f, g, take-add a n s) (sym (append_assoc (take a s) (take n (drop a s)) (drop (a + n) o)))

-- one cell more, whose number is x, and the last one
module _ (l o : List ℕ) (q : ℕ) (h : q < length l) (x : ℕ) (is : get_or l q 0 ≡ x) where
  pub copy-turn : (z y : List ℕ) → 4 * q + 4 ≤ length o → z ≡ fronted (unfours l) o (4 * q)
      → y ≡ take (4 * q) z ++ (unfours (x ∷ []) ++ drop (4 * q + 4) z) → y ≡ fronted (unfours l) o (4 * (q + 1))
  copy-turn z y k e f =
      let m : 4 * q + 4 ≡ 4 * (q + 1) = omega arith in
      f ∙ rw (e, ← is, all-bytes_at l q h) (grown (unfours l) o (4 * q) 4 (rw (length-unfours l) (omega arith)) k ∙ ap (fronted (unfours l) o) m)

  pub copy_rest : (z y : List ℕ) (n : ℕ) → n ≤ 4 → 4 * q + n ≤ length o → z ≡ fronted (unfours l) o (4 * q)
      → y ≡ take (4 * q) z ++ (take n (unfours (x ∷ [])) ++ drop (4 * q + n) z) → y ≡ fronted (unfours l) o (4 * q + n)
  copy_rest z y n m k e f =
      f ∙ rw (e, ← is, bytes_at l q n h m) (grown (unfours l) o (4 * q) n (rw (length-unfours l) (omega arith)) k)

pub copied : (r : List ℕ) → length r ≡ 15 → (n m k : ℕ) (o z : List ℕ) → m ≡ min n 60 → k ≡ m → z ≡ fronted (unfours r) o k → Copied (row_chars r n) o z m
copied r long n m k o z e f g =
    let l : m ≡ length (row_chars r n) = e ∙ sym (chars-length r long n) in
    let v : take m (unfours r) ≡ row_chars r n = ap (row_chars r) e ∙ sym (chars-cut r long n) in
    record {
      count = l;
      short = omega arith;
      is = g ∙ ap (fronted (unfours r) o) f ∙ ap₂ ◌++◌ v (ap (λ (j : ℕ). drop j o) l);
    }
