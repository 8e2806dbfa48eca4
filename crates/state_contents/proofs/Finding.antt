-- The strings of a state where they stand in a row: whole contents, and the halves of a file's.
use Rattle.std.specs.Prelude.{Option, Some, None, MatchOption, unwrap_or}
use mathlib.Core.Path.{◌≡◌, refl, sym, ap, ◌∙◌, subst}
use mathlib.Core.Bool.{Bool, true, false, cond}
use mathlib.Core.List.{List, [], ◌∷◌, ◌++◌}
use Prim.Native.Nat.{ℕ, zero, suc, ◌+◌, ◌*◌, ◌-◌, ◌/◌, ◌%◌, ◌≤◌, ◌<◌}
use native.Mathlib.Nat.{not-suc-le-zero, le_of_suc-le-suc, sub-zero}
use native.Mathlib.Omega.{arith}
use lib.Dec.{eqb}
use lib.ListN.{length, get_or, take, drop, length-append, length-take, length-drop, drop_of_length-le, get_or-append}
use lib.Seq.{drop_at, drop-drop, get_or-drop, get_or-take, take-take, take_all, take-nil}
use Rattle.lists.specs.BoolLaws.{sign-most}
use Rattle.gaps.proofs.Parts.{drop-take}
use Rattle.language.specs.Limits as limit
use Rattle.lists.specs.Lists.{each}
use Rattle.layout.proofs.CellLaws.{length-each, length-tab, get_d-tab}
use Rattle.layout.specs.Cells.{two_at}
use Rattle.layout.specs.Places as layout
use Rattle.layout.specs.Strings.{used}
use Rattle.layout.proofs.StringLaws.{joined_next, joined-within}
use Rattle.state_frames.specs.Frames.{Frame, expression, file, output, stack, frames_in}
use Rattle.state_frames.specs.Saved.{contents_at, contents_of, before_half, after_half, halves, strings_by}
use Rattle.state_contents.specs.Contents.{Stored, Gathered, Standing, half_of, strings_of, Fitting}

-- ---- of a kind by its number

pub gathered-by : (fs : List Frame) {j k a i : ℕ} {p : Option ℕ} {o : List ℕ} → j ≡ k → a ≡ i → Gathered (contents_at j a fs) p o → Gathered (contents_at k i fs) p o
gathered-by fs e f g = rw (e, f) at g

pub standing-by : (fs : List Frame) {j k a i from to : ℕ} {o : List ℕ} → j ≡ k → a ≡ i → Standing (length (contents_at j a fs) ≤ length o) (contents_at j a fs) o from to
    → Standing (length (contents_at k i fs) ≤ length o) (contents_at k i fs) o from to
standing-by fs e f s = rw (e, f) at s

-- ---- whole contents

pub whole-all : {c o : List ℕ} {p : Option ℕ} {n : ℕ} → Gathered c p o → n ≡ unwrap_or p 0 → Standing (length c ≤ length o) c o 0 n
whole-all {c} {o} {p} {n} g e = go p g.told e
  where
    go : (p : Option ℕ) → MatchOption p (length o < length c) (λ m. Stored c m o) → n ≡ unwrap_or p 0 → Standing (length c ≤ length o) c o 0 n
    go None w q = record { order = omega arith; within = omega (arith, q); is = λ h. absurd (omega (arith, w, h)) }
    go (Some m) w q = rw q (record { order = omega arith; within = w.room; is = λ h. ap (λ (k : ℕ). take k o) (sub-zero m) ∙ w.bytes })

-- ---- the halves of a file's contents c, n bytes in front in the row o

pub gathered-none : {c o : List ℕ} {p : Option ℕ} → Gathered c p o → p ≡ None → length o < length c
gathered-none {c} {o} g e = subst (λ x. MatchOption x (length o < length c) (λ m. Stored c m o)) e g.told

pub gathered-some : {c o : List ℕ} {p : Option ℕ} {n : ℕ} → Gathered c p o → p ≡ Some n → Stored c n o
gathered-some {c} {o} g e = subst (λ x. MatchOption x (length o < length c) (λ m. Stored c m o)) e g.told

pub half-none : (c o : List ℕ) → length o < length c → (b : Bool) → Standing (length c ≤ length o) (half_of b c) o 0 0
half-none c o h b = record { order = omega arith; within = omega arith; is = λ w. absurd (omega (arith, h, w)) }

module _ {c o : List ℕ} {n : ℕ} (g : Stored c n o) where
  pub half-short : n < 2 → (b : Bool) → Standing (length c ≤ length o) (half_of b c) o 0 0
  half-short h b = record { order = omega arith; within = omega arith; is = λ w. go b }
    where
      short : length c < 2
      short = omega (arith, g.count)

      go : (b : Bool) → [] ≡ half_of b c
      go true = sym (drop_of_length-le c {i = 2 + two_at 0 c} (omega (arith, short)))
      go false =
          let e : drop 2 c ≡ [] = drop_of_length-le c {i = 2} (omega (arith, short)) in
          rw e (sym (take-nil (two_at 0 c)))

  abbrev h : n ≤ length o
  h = g.room

  module _ (two : 2 ≤ n) (m : ℕ) (e : m ≡ two_at 0 o) where
    front : take n o ≡ c
    front = g.bytes

    middle : m ≡ two_at 0 c
    middle =
        let a : get_or c 0 0 ≡ get_or o 0 0 = ap (λ (l : List ℕ). get_or l 0 0) (sym front) ∙ get_or-take n o 0 0 (omega arith) in
        let b : get_or c 1 0 ≡ get_or o 1 0 = ap (λ (l : List ℕ). get_or l 1 0) (sym front) ∙ get_or-take n o 1 0 (omega arith) in
        e ∙ rw (a, b)

    -- what is left of the contents from i on
    left : (i : ℕ) → take (n - i) (drop i o) ≡ drop i c
    left i = sym (drop-take i n o) ∙ ap (drop i) front

    pub half-after-none : {b : Bool} → b ≡ true → n < 2 + m → Standing (length c ≤ length o) (half_of b c) o n n
    half-after-none z q =
        let a : drop n c ≡ [] = drop_of_length-le c {i = n} (omega (arith, g.count)) in
        let b : drop (2 + two_at 0 c) c ≡ [] = drop_of_length-le c {i = 2 + two_at 0 c} (omega (arith, g.count, middle)) in
        record { order = omega arith; within = h; is = λ w. left n ∙ a ∙ sym b ∙ ap (λ x. half_of x c) (sym z) }

    pub half-after : {b : Bool} → b ≡ true → 2 + m ≤ n → Standing (length c ≤ length o) (half_of b c) o (2 + m) n
    half-after z q = record { order = q; within = h; is = λ w. left (2 + m) ∙ ap (λ (k : ℕ). drop (2 + k) c) middle ∙ ap (λ x. half_of x c) (sym z) }

    pub half-before-all : {b : Bool} → b ≡ false → n < 2 + m → Standing (length c ≤ length o) (half_of b c) o 2 n
    half-before-all z q =
        let l : length (drop 2 c) ≤ two_at 0 c = simp length-drop (omega (arith, g.count, middle)) in
        record { order = two; within = h; is = λ w. left 2 ∙ sym (take_all (two_at 0 c) (drop 2 c) l) ∙ ap (λ x. half_of x c) (sym z) }

    pub half-before : {b : Bool} → b ≡ false → 2 + m ≤ n → Standing (length c ≤ length o) (half_of b c) o 2 (2 + m)
    half-before z q =
        let d : 2 + m - 2 ≡ m = omega arith in
        record {
          order = omega arith;
          within = omega arith;
          is = λ w. ap (λ (k : ℕ). take k (drop 2 o)) d ∙ sym (take-take m (n - 2) (drop 2 o) (omega arith)) ∙ ap (take m) (left 2) ∙ ap (λ (k : ℕ). take k (drop 2 c)) middle ∙ ap (λ x. half_of x c) (sym z);
        }

-- ---- string j among all

halves-at : (cs : List (List ℕ)) (q : ℕ) (b : Bool) → q < length cs → get_or (each halves cs) (2 * q + cond b 1 0) [] ≡ half_of b (get_or cs q [])
halves-at [] q b h = absurd (not-suc-le-zero h)
halves-at (c ∷ cs) zero true h = refl
halves-at (c ∷ cs) zero false h = refl
halves-at (c ∷ cs) (suc q) b h =
    let z : 2 * suc q + cond b 1 0 ≡ suc (suc (2 * q + cond b 1 0)) = omega arith in
    rw z (halves-at cs q b (le_of_suc-le-suc h))

half-long : (c : List ℕ) → length c ≤ 2 + (length (before_half c) + length (after_half c))
half-long c = simp (length-take, length-drop) (omega arith)

bit : (r : ℕ) → r < 2 → cond (eqb r 1) 1 0 ≡ r
bit zero h = refl
bit (suc zero) h = refl
bit (suc (suc r)) h = absurd (omega (arith, h))

module _ (t : List ℕ) where
  abbrev fs : List Frame
  fs = frames_in t

  abbrev vs : List (List ℕ)
  vs = strings_of t

  abbrev E : List (List ℕ)
  E = contents_of expression limit.expressions fs

  abbrev F : List (List ℕ)
  F = contents_of file limit.files fs

  abbrev Q : List (List ℕ)
  Q = contents_of output limit.outputs fs

  abbrev R : List ℕ
  R = contents_at stack 0 fs

  length-E : length E ≡ limit.expressions
  length-E = length-tab limit.expressions (λ i. contents_at expression (suc i) fs)

  length-F : length F ≡ limit.files
  length-F = length-tab limit.files (λ i. contents_at file (suc i) fs)

  length-H : length (each halves F) ≡ layout.file_strings_count
  length-H = length-each 2 halves (λ c. refl) F ∙ ap (λ (n : ℕ). 2 * n) length-F

  pub length-strings_of : length vs ≡ layout.strings_count
  unfolding strings_by
  length-strings_of = simp length-append (omega (arith, length-E, length-H, length-tab limit.outputs (λ i. contents_at output (suc i) fs)))

  files-drop : drop layout.first_file vs ≡ each halves F ++ (R ∷ Q)
  unfolding strings_by
  files-drop = drop_at E (each halves F ++ (R ∷ Q)) layout.first_file length-E

  stack-drop : drop layout.stack_string vs ≡ R ∷ Q
  stack-drop = sym (drop-drop layout.file_strings_count layout.first_file vs) ∙ ap (drop layout.file_strings_count) files-drop ∙ drop_at (each halves F) (R ∷ Q) layout.file_strings_count length-H

  expr-string : (j : ℕ) → j < layout.first_file → contents_at expression (j + 1) fs ≡ get_or vs j []
  unfolding strings_by
  expr-string j h =
      let z : j + 1 ≡ suc j = omega arith in
      ap (λ (i : ℕ). contents_at expression i fs) z ∙ sym (get_or-append E (each halves F ++ (R ∷ Q)) [] j (rw length-E h) ∙ get_d-tab limit.expressions (λ i. contents_at expression (suc i) fs) j [] h)

  file-at : (q : ℕ) (b : Bool) → q < limit.files → get_or vs (layout.first_file + (2 * q + cond b 1 0)) [] ≡ half_of b (contents_at file (q + 1) fs)
  file-at q b h =
      let k = 2 * q + cond b 1 0 in
      let z : suc q ≡ q + 1 = omega arith in
      let l : k < layout.file_strings_count = omega (arith, sign-most b) in
      sym (get_or-drop layout.first_file vs k []) ∙ ap (λ ws. get_or ws k []) files-drop ∙ get_or-append (each halves F) (R ∷ Q) [] k (rw length-H l) ∙ halves-at F q b (rw length-F h)
      ∙ ap (half_of b) (get_d-tab limit.files (λ i. contents_at file (suc i) fs) q [] h ∙ ap (λ (i : ℕ). contents_at file i fs) z)

  file-string : (j : ℕ) → layout.first_file ≤ j → j < layout.stack_string → half_of (eqb ((j - layout.first_file) % 2) 1) (contents_at file ((j - layout.first_file) / 2 + 1) fs) ≡ get_or vs j []
  file-string j h k =
      let q = (j - layout.first_file) / 2 in
      let r = (j - layout.first_file) % 2 in
      let x : layout.first_file + (2 * q + cond (eqb r 1) 1 0) ≡ j = omega (arith, bit r (omega arith)) in
      sym (file-at q (eqb r 1) (omega arith)) ∙ ap (λ (i : ℕ). get_or vs i []) x

  stack_string : contents_at stack 0 fs ≡ get_or vs layout.stack_string []
  stack_string = sym (sym (get_or-drop layout.stack_string vs 0 []) ∙ ap (λ ws. get_or ws 0 []) stack-drop)

  output_string : (j : ℕ) → layout.stack_string < j → j < layout.strings_count → contents_at output (j - layout.stack_string) fs ≡ get_or vs j []
  output_string j h k =
      let i = j - layout.first_output in
      let x : layout.stack_string + suc i ≡ j = omega arith in
      let y : j - layout.stack_string ≡ suc i = omega arith in
      let b : i < limit.outputs = omega arith in
      ap (λ (n : ℕ). contents_at output n fs) y
      ∙ sym (ap (λ (n : ℕ). get_or vs n []) (sym x) ∙ sym (get_or-drop layout.stack_string vs (suc i) []) ∙ ap (λ ws. get_or ws (suc i) []) stack-drop ∙ get_d-tab limit.outputs (λ i. contents_at output (suc i) fs) i [] b)

  -- ---- there is room in the row for what fits a state

  fits_one : Fitting t → (j : ℕ) → length (get_or vs j []) ≤ limit.state
  unfolding used
  fits_one f j = omega (arith, f, joined-within vs j)

  fits-file : Fitting t → (q : ℕ) → q < limit.files → length (contents_at file (q + 1) fs) ≤ limit.state
  unfolding used
  fits-file f q h =
      let c = contents_at file (q + 1) fs in
      let j = layout.first_file + (2 * q + 0) in
      let x : layout.first_file + (2 * q + 1) ≡ suc j = omega arith in
      let b : before_half c ≡ get_or vs j [] = sym (file-at q false h) in
      let a : after_half c ≡ get_or vs (suc j) [] = sym (file-at q true h) ∙ ap (λ (i : ℕ). get_or vs i []) x in
      omega (arith, f, half-long c, ap length b, ap length a, joined-within vs (suc j), joined_next vs j (omega (arith, length-strings_of)))

  by : {A : Type 0} {c d o : List ℕ} {from to : ℕ} → (Fitting t → A) → c ≡ d → Standing A c o from to → Standing (Fitting t) d o from to
  by f e s = record { order = s.order; within = s.within; is = λ w. s.is (f w) ∙ e }

  module _ {o : List ℕ} {from to : ℕ} (j : ℕ) (l : length o ≡ limit.state) where
    whole_by : {c : List ℕ} → c ≡ get_or vs j [] → Standing (length c ≤ length o) c o from to → Standing (Fitting t) (get_or vs j []) o from to
    whole_by e s = by (λ f. omega (arith, l, ap length e, fits_one f j)) e s

    pub expr-stands : j < layout.first_file → Standing (length (contents_at expression (j + 1) fs) ≤ length o) (contents_at expression (j + 1) fs) o from to → Standing (Fitting t) (get_or vs j []) o from to
    expr-stands h s = whole_by (expr-string j h) s

    pub file-stands : layout.first_file ≤ j → j < layout.stack_string → Standing (length (contents_at file ((j - layout.first_file) / 2 + 1) fs) ≤ length o) (half_of (eqb ((j - layout.first_file) % 2) 1) (contents_at file ((j - layout.first_file) / 2 + 1) fs)) o from to
        → Standing (Fitting t) (get_or vs j []) o from to
    file-stands h k s = by (λ f. omega (arith, l, fits-file f ((j - layout.first_file) / 2) (omega arith))) (file-string j h k) s

    pub stack-stands : j ≡ layout.stack_string → Standing (length (contents_at stack 0 fs) ≤ length o) (contents_at stack 0 fs) o from to → Standing (Fitting t) (get_or vs j []) o from to
    stack-stands h s = whole_by (stack_string ∙ ap (λ (i : ℕ). get_or vs i []) (sym h)) s

    pub output-stands : layout.stack_string < j → j < layout.strings_count → Standing (length (contents_at output (j - layout.stack_string) fs) ≤ length o) (contents_at output (j - layout.stack_string) fs) o from to → Standing (Fitting t) (get_or vs j []) o from to
    output-stands h k s = whole_by (output_string j h k) s
