-- A name among others.
use mathlib.Core.Path.{◌≡◌, refl, sym, ap, subst, ◌∙◌}
use mathlib.Core.Bool.{Bool, true, false, ◌||◌}
use mathlib.Core.List.{List, [], ◌∷◌}
use Prim.Native.Nat.{ℕ, ◌+◌, ◌-◌, ◌*◌, ◌/◌, ◌%◌, ◌≤◌, ◌<◌}
use native.Mathlib.Omega.{arith}
use lib.Dec.{T}
use lib.ListN.{length, get_or, take, drop, length-take, length-drop}
use lib.Seq.{get_or-take, get_or-drop}
use Rattle.layout.specs.Cells.{four}
use Rattle.lists.specs.Lists.{any, bytes_equal}
use Rattle.lists.specs.ListLaws.{other_length, same_bytes-eq}
use Rattle.drafts.specs.Marks.{length_by, word_by}
use Rattle.statements.specs.Below.Tokens.{part}
use Rattle.names.specs.Names.{Fitting, names_of}

-- one of the names of some marks is a word
pub any-named : (s w ms : List ℕ) → any (λ m. bytes_equal w (word_by s m)) ms ≡ any (bytes_equal w) (names_of s ms)
any-named s w [] = refl
any-named s w (m ∷ ms) = ap (λ b. bytes_equal w (word_by s m) || b) (any-named s w ms)

module _ {s : List ℕ} {m at len : ℕ} (pre : Fitting s m at len) where
  pub long : length (take len (drop at s)) ≡ len
  long = simp (length-take, length-drop) (omega (arith, pre.inside))

  mark-long : length (word_by s m) ≡ length_by m
  unfolding word_by
  mark-long = simp (length-take, length-drop) (omega (arith, pre.marked))

  pub not-it : (m % 64 ≡ len → ⊥) → false ≡ bytes_equal (take len (drop at s)) (word_by s m)
  not-it h = sym (other_length (take len (drop at s)) (word_by s m) (λ e. h (omega (arith, e, long, mark-long))))

  pub may-be-it : m % 64 ≡ len → {r : Bool} → r ≡ bytes_equal (part s at (at + len)) (part s (m / 64) (m / 64 + len))
      → r ≡ bytes_equal (take len (drop at s)) (word_by s m)
  unfolding word_by
  may-be-it h q =
      let a : (at + len) - at ≡ len = omega arith in
      let b : (m / 64 + len) - m / 64 ≡ m % 64 = omega arith in
      q ∙ rw (a, b) refl

  -- a word of this length with other last bytes
  pub other-end : m % 64 ≡ len → 4 ≤ len → (four (drop (at + (len - 4)) s) ≡ four (drop (m / 64 + (len - 4)) s) → ⊥) → false ≡ bytes_equal (take len (drop at s)) (word_by s m)
  unfolding word_by
  other-end e l h = go (bytes_equal (take len (drop at s)) (word_by s m)) refl
    where
      byte : List ℕ → ℕ → ℕ
      byte w j = get_or w (len - 4 + j) 0

      last_byte : (p n j : ℕ) → len - 4 + j < n → get_or (drop (p + (len - 4)) s) j 0 ≡ byte (take n (drop p s)) j
      last_byte p n j q =
          let a : p + (len - 4) + j ≡ p + (len - 4 + j) = omega arith in
          get_or-drop (p + (len - 4)) s j 0 ∙ ap (λ (i : ℕ). get_or s i 0) a ∙ sym (get_or-take n (drop p s) (len - 4 + j) 0 q ∙ get_or-drop p s (len - 4 + j) 0)

      last-four : (p n : ℕ) → len ≡ n → four (drop (p + (len - 4)) s)
          ≡ byte (take n (drop p s)) 0 + 256 * byte (take n (drop p s)) 1 + 65536 * byte (take n (drop p s)) 2 + 16777216 * byte (take n (drop p s)) 3
      last-four p n q = rw (last_byte p n 0 (omega arith), last_byte p n 1 (omega arith), last_byte p n 2 (omega arith), last_byte p n 3 (omega arith))

      go : (b : Bool) → bytes_equal (take len (drop at s)) (word_by s m) ≡ b → false ≡ b
      go true q =
          let v = same_bytes-eq (take len (drop at s)) (word_by s m) (subst T (sym q) tt) in
          absurd (h (last-four at len refl ∙ ap (λ (w : List ℕ). byte w 0 + 256 * byte w 1 + 65536 * byte w 2 + 16777216 * byte w 3) v ∙ sym (last-four (m / 64) (m % 64) (sym e))))
      go false q = refl
