-- Texts and labels of a table: tested cell by cell, they are well formed and written as they are read.
use Rattle.std.specs.Prelude.{◌≡◌, Bool, ◌&&◌, ◌||◌, List, [], ◌∷◌, ℕ, suc, ◌+◌, ◌*◌, ◌/◌, ◌%◌, ◌≤◌, ◌<◌, ltb, eqb}
use Rattle.std.proofs.Common.{sym, arith, lt→ltb}
use Rattle.std.proofs.Math.Path.{subst}
use Rattle.std.proofs.Math.Bool.{true, false}
use Rattle.std.proofs.Math.Dec.{T, leb, leb→le, ltb→lt, le→leb, eqb→eq, eqb_refl}
use Rattle.std.proofs.Math.ListN.{length}
use Rattle.characters.specs.Characters.{known, is_capital, is_digit}
use Rattle.language.specs.Program.{identifier, Program}
use Rattle.lists.specs.ListLaws.{T-left, T-right, T-both, all_cons, all_tail}
use Rattle.lists.specs.Lists.{all, filled}
use Rattle.machine.specs.Facts.{LabelFacts}
use Rattle.machine.specs.WellFormed.{good_word, good_text, good_label}
use Rattle.machine.proofs.WellFormedLaws.{open-label}
use Rattle.layout.specs.Cells.{cell, fours}
use Rattle.layout.proofs.ProgramLaws.{known-below, identifier-below}
use Rattle.layout.specs.Table.{label_cells, text_cells, text_in, label_in}
use Rattle.layout.specs.Places as layout
use Rattle.check_parts.specs.Parts.{alphanumeric, char, chars_fit, text_fits, label_fits}
use Rattle.check_table.specs.CharLaws.{Behind, length-w, w_cell, chars-stand, stand-chars, chars-good, chars-end, chars_fit-of}
use Rattle.check_table.specs.StandLaws.{stands}

-- some first cell and what stands behind it
module _ (t : List ℕ) (a b x : ℕ) (l : List ℕ) (next : suc a ≡ b) where
  pub stands-cons : cell t a ≡ x → T (stands t b l) → T (stands t a (x ∷ l))
  unfolding stands
  stands-cons e h =
      T-both (eqb x (cell t a)) (stands t (suc a) l) (subst (λ (y : ℕ). T (eqb x y)) (sym e) (eqb_refl x)) (subst (λ (k : ℕ). T (stands t k l)) (sym next) h)

  pub stands-head : T (stands t a (x ∷ l)) → x ≡ cell t a
  unfolding stands
  stands-head h = eqb→eq x (cell t a) (T-left (eqb x (cell t a)) (stands t (suc a) l) h)

  pub stands-tail : T (stands t a (x ∷ l)) → T (stands t b l)
  unfolding stands
  stands-tail h = subst (λ (k : ℕ). T (stands t k l)) next (T-right (eqb x (cell t a)) (stands t (suc a) l) h)

filled_of : (w : List ℕ) → 0 < length w → T (filled w)
filled_of [] h = absurd (omega (arith, h))
filled_of (x ∷ w) h = tt

-- ---- identifiers

letter-too : (b : ℕ) → T (is_capital b) → T (alphanumeric b)
letter-too b h = go (is_capital b) h
  where
    go : (x : Bool) → T x → T (x || is_digit b)
    go true h = tt
    go false h = absurd h

identifier-of : (w : List ℕ) → 0 < length w → T (is_capital (cell w 0)) → T (all alphanumeric w) → T (identifier w)
identifier-of [] h a k = absurd (omega (arith, h))
identifier-of (b ∷ w) h a k = T-both (is_capital b) (all alphanumeric w) a (all_tail alphanumeric b w k)

identifier-long : (w : List ℕ) → T (identifier w) → 0 < length w
identifier-long [] h = absurd h
identifier-long (b ∷ w) h = omega arith

identifier-first : (w : List ℕ) → T (identifier w) → T (is_capital (cell w 0))
identifier-first [] h = absurd h
identifier-first (b ∷ w) h = T-left (is_capital b) (all alphanumeric w) h

identifier-all : (w : List ℕ) → T (identifier w) → T (all alphanumeric w)
identifier-all [] h = absurd h
identifier-all (b ∷ w) h =
    all_cons alphanumeric b w (letter-too b (T-left (is_capital b) (all alphanumeric w) h)) (T-right (is_capital b) (all alphanumeric w) h)

-- ---- text k

abbrev pub kept_good : List ℕ → Bool
kept_good w = ltb 1 (length w) && good_text w

module _ (t : List ℕ) (long : length t ≡ 8192) (k : ℕ) (few : k < 128) where
  abbrev n : ℕ
  n = cell t (layout.first_text + 16 * k)

  abbrev at : ℕ
  at = layout.first_characters + 16 * k

  abbrev w : List ℕ
  w = text_in t k

  abbrev a₁ : Bool
  a₁ = ltb 1 n

  abbrev a₂ : Bool
  a₂ = leb n 60

  abbrev a₃ : Bool
  a₃ = chars_fit t at n false

  next : suc (layout.first_text + 16 * k) ≡ layout.first_characters + 16 * k
  next = omega arith

  inside : at + 15 ≤ length t
  inside = omega (arith, long)

  pub text-sound : T (text_fits t k) → T (kept_good w) × T (stands t (layout.first_text + 16 * k) (text_cells w))
  unfolding text_fits
  text-sound h =
      let h₃ = T-right (a₁ && a₂) a₃ h in
      let short : n ≤ 60 = leb→le n 60 (T-right a₁ a₂ (T-left (a₁ && a₂) a₃ h)) in
      let some : 1 < n = ltb→lt 1 n (T-left a₁ a₂ (T-left (a₁ && a₂) a₃ h)) in
      let l : length w ≡ n = length-w t at n inside short in
      let word : T (good_word w) = T-both (filled w) (all known w) (filled_of w (omega (arith, l, some))) (chars-good t at n inside short false h₃) in (
        T-both (ltb 1 (length w)) (good_text w) (lt→ltb 1 (length w) (omega (arith, l, some)))
            (T-both (good_word w) (leb (length w) 60) word (le→leb (length w) 60 (omega (arith, l, short)))),
        stands-cons t (layout.first_text + 16 * k) at (length w) (fours 15 w) next (sym l) (chars-stand t at n inside short (chars-end t at n inside short false h₃)),
      )

  pub text-complete : T (kept_good w) → T (stands t (layout.first_text + 16 * k) (text_cells w)) → T (text_fits t k)
  unfolding text_fits
  text-complete g h =
      let g₂ = T-right (ltb 1 (length w)) (good_text w) g in
      let most : length w ≤ 60 = leb→le (length w) 60 (T-right (good_word w) (leb (length w) 60) g₂) in
      let some : 1 < length w = ltb→lt 1 (length w) (T-left (ltb 1 (length w)) (good_text w) g) in
      let all_known : T (all known w) = T-right (filled w) (all known w) (T-left (good_word w) (leb (length w) 60) g₂) in
      let l : length w ≡ n = stands-head t (layout.first_text + 16 * k) at (length w) (fours 15 w) next h in
      let short : n ≤ 60 = omega (arith, l, most) in
      let z : Behind t at n inside short = stand-chars t at n inside short (known-below w all_known) (stands-tail t (layout.first_text + 16 * k) at (length w) (fours 15 w) next h) in
      T-both (a₁ && a₂) a₃ (T-both a₁ a₂ (lt→ltb 1 n (omega (arith, l, some))) (le→leb n 60 short)) (chars_fit-of t at n inside short false all_known z)

-- ---- label k

module _ (t : List ℕ) (long : length t ≡ 8192) (k : ℕ) (few : k < 128) where
  abbrev x : ℕ
  x = cell t (layout.first_label + 16 * k)

  abbrev m : ℕ
  m = x % 64

  abbrev from : ℕ
  from = layout.first_name + 16 * k

  abbrev from' : ℕ
  from' = 1 + (layout.first_label + 16 * k)

  abbrev v : List ℕ
  v = (label_in t k).name

  abbrev b₁ : Bool
  b₁ = ltb 0 m

  abbrev b₂ : Bool
  b₂ = leb m 60

  abbrev b₃ : Bool
  b₃ = is_capital (char t from 0)

  abbrev b₄ : Bool
  b₄ = chars_fit t from m true

  abbrev b₅ : Bool
  b₅ = ltb (x / 64) (cell t 0)

  next' : suc (layout.first_label + 16 * k) ≡ 1 + (layout.first_label + 16 * k)
  next' = omega arith

  place : layout.first_name + 16 * k ≡ 1 + (layout.first_label + 16 * k)
  place = omega arith

  inside' : from' + 15 ≤ length t
  inside' = omega (arith, long)

  module _ (p : Program) (code_count : length p.code ≡ cell t 0) where
    pub label-sound : T (label_fits t k) → T (good_label p (label_in t k)) × T (stands t (layout.first_label + 16 * k) (label_cells (label_in t k)))
    unfolding label_fits good_label
    label-sound h =
        let h₅ = T-right (b₁ && b₂ && b₃ && b₄) b₅ h in
        let h₄ : T (chars_fit t from' m true) = subst (λ (i : ℕ). T (chars_fit t i m true)) place (T-right (b₁ && b₂ && b₃) b₄ (T-left (b₁ && b₂ && b₃ && b₄) b₅ h)) in
        let g₃ = T-left (b₁ && b₂ && b₃) b₄ (T-left (b₁ && b₂ && b₃ && b₄) b₅ h) in
        let h₃ : T (is_capital (char t from' 0)) = subst (λ (i : ℕ). T (is_capital (char t i 0))) place (T-right (b₁ && b₂) b₃ g₃) in
        let short : m ≤ 60 = leb→le m 60 (T-right b₁ b₂ (T-left (b₁ && b₂) b₃ g₃)) in
        let some : 0 < m = ltb→lt 0 m (T-left b₁ b₂ (T-left (b₁ && b₂) b₃ g₃)) in
        let l : length v ≡ m = length-w t from' m inside' short in
        let first : T (is_capital (cell v 0)) = subst (λ (y : ℕ). T (is_capital y)) (sym (w_cell t from' m inside' short 0 some)) h₃ in
        let name : T (identifier v) = identifier-of v (omega (arith, l, some)) first (chars-good t from' m inside' short true h₄) in
        let fits : T (leb (length v) 60) = le→leb (length v) 60 (omega (arith, l, short)) in
        let target : T (ltb (x / 64) (length p.code)) = subst (λ (i : ℕ). T (ltb (x / 64) i)) (sym code_count) h₅ in (
          T-both (identifier v && leb (length v) 60) (ltb (x / 64) (length p.code)) (T-both (identifier v) (leb (length v) 60) name fits) target,
          stands-cons t (layout.first_label + 16 * k) from' (length v + 64 * (x / 64)) (fours 15 v) next' (omega (arith, l)) (chars-stand t from' m inside' short (chars-end t from' m inside' short true h₄)),
        )

    pub label-complete : T (good_label p (label_in t k)) → T (stands t (layout.first_label + 16 * k) (label_cells (label_in t k))) → T (label_fits t k)
    unfolding label_fits
    label-complete g h =
        let f : LabelFacts p (label_in t k) = open-label p (label_in t k) g in
        let e : length v + 64 * (x / 64) ≡ x = stands-head t (layout.first_label + 16 * k) from' (length v + 64 * (x / 64)) (fours 15 v) next' h in
        let l : length v ≡ m = omega (arith, e) in
        let short : m ≤ 60 = omega (arith, l, f.short) in
        let z : Behind t from' m inside' short = stand-chars t from' m inside' short (identifier-below v f.name) (stands-tail t (layout.first_label + 16 * k) from' (length v + 64 * (x / 64)) (fours 15 v) next' h) in
        let some : 0 < m = omega (arith, l, identifier-long v f.name) in
        let h₄ : T b₄ = subst (λ (i : ℕ). T (chars_fit t i m true)) (sym place) (chars_fit-of t from' m inside' short true (identifier-all v f.name) z) in
        let h₃ : T (is_capital (char t from' 0)) = subst (λ (y : ℕ). T (is_capital y)) (w_cell t from' m inside' short 0 some) (identifier-first v f.name) in
        let h₃' : T b₃ = subst (λ (i : ℕ). T (is_capital (char t i 0))) (sym place) h₃ in
        let h₅ : T b₅ = subst (λ (i : ℕ). T (ltb (x / 64) i)) code_count (lt→ltb (x / 64) (length p.code) f.target) in
        T-both (b₁ && b₂ && b₃ && b₄) b₅ (T-both (b₁ && b₂ && b₃) b₄ (T-both (b₁ && b₂) b₃ (T-both b₁ b₂ (lt→ltb 0 m some) (le→leb m 60 short)) h₃') h₄) h₅
