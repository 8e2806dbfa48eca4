-- Indexed letters, by the first byte's letter and the size of the digits after it.
use mathlib.Core.Path.{◌≡◌, refl, sym, ap, ◌∙◌}
use mathlib.Core.Bool.{Bool, true, false, cond, ◌&&◌, ◌||◌, beq, and-false}
use mathlib.Core.List.{List, [], ◌∷◌}
use Prim.Native.Nat.{ℕ, ◌≤◌, ◌<◌}
use native.Mathlib.Omega.{arith}
use lib.Dec.{leb, ltb, ltb→lt, eqb, eqb→eq}
use lib.ListN.{length, get_or}
use borrow.Author.Tests.{le-leb, lt-leb, lt-ltb, le-ltb}
use Rattle.syntax.specs.Below.Letters.{Letter, letters, letter_code, indices, use_of}
use Rattle.syntax.specs.Below.Letters.Letter.{A}
use Rattle.appending.proofs.Below.LayoutArgumentLaws.{letter-back}
use Rattle.syntax.proofs.LetterLaws.{every-letter}
use Rattle.syntax.specs.Below.LanguageValues.{amount, unsigned}
use Rattle.appending.specs.Below.Table.{letter_place}
use Rattle.syntax.specs.Below.Lists.{head_or}
use Rattle.syntax.specs.Below.ListsTableLaws.{beq-eq, below}
use Rattle.syntax.specs.ArgumentForms.{is_index, letter_of}
use Rattle.numerals.specs.Numerals.{measured}
use Rattle.words.specs.Words.{letter_at, indexed_of}
use Rattle.std.specs.Prelude.{Option, Some, None, ◌+◌, min, unwrap_or}
use Rattle.syntax.specs.Below.Limits as limit

abbrev pub found : Letter → ℕ → Option (Letter × ℕ)
found l n = Some (l, n)

-- a byte and its letter, computed for every byte
is-letter : ℕ → Bool
is-letter b = beq (eqb b (letter_code (letter_of b))) (ltb (letter_at b) 12)

placed : ℕ → Bool
placed b = leb 12 (letter_at b) || eqb (letter_place (letter_of b)) (letter_at b)

pub record Known (b : ℕ) : Type 0 where
  pub letter : eqb b (letter_code (letter_of b)) ≡ ltb (letter_at b) 12
  pub place : letter_at b < 12 → letter_place (letter_of b) ≡ letter_at b

known : (b : ℕ) → b < 256 → Known b
unfolding is-letter placed
known b h =
    record {
      letter = beq-eq (eqb b (letter_code (letter_of b))) (ltb (letter_at b) 12) (below is-letter 256 tt b h);
      place = λ l. eqb→eq (letter_place (letter_of b)) (letter_at b) (rw (lt-leb 12 (letter_at b) l) at (below placed 256 tt b h));
    }

leading : (v : List ℕ) → head_or 0 v ≡ get_or v 0 0
leading [] = refl
leading (x ∷ v) = refl

index-empty : (m : ℕ) (v : List ℕ) → length v ≡ 0 → is_index m v ≡ false
unfolding is_index
index-empty m [] h = refl
index-empty m (x ∷ v) h = absurd (omega (arith, h))

index-zero : (m : ℕ) (v : List ℕ) → head_or 0 v ≤ 48 → is_index m v ≡ false
unfolding is_index
index-zero m v h = rw (le-ltb 48 (head_or 0 v) h, and-false (unsigned v))

-- by what the digits measure
index-none : (m : ℕ) (v : List ℕ) → measured v ≡ None → is_index m v ≡ false
unfolding is_index measured
index-none m v e = go (unsigned v) e
  where
    go : (t : Bool) → cond t (Some (min (amount 0 v) (limit.size + 1))) None ≡ None → (t && ltb 48 (head_or 0 v)) && leb (amount 0 v) m ≡ false
    go true k = cc
    go false k = refl

index-beyond : (m : ℕ) (v : List ℕ) → m ≤ 32 → {n : ℕ} → measured v ≡ Some n → m < n → is_index m v ≡ false
unfolding is_index measured
index-beyond m v h {n} e l = go (unsigned v) e
  where
    go : (t : Bool) → cond t (Some (min (amount 0 v) (limit.size + 1))) None ≡ Some n → (t && ltb 48 (head_or 0 v)) && leb (amount 0 v) m ≡ false
    go true k = let q : min (amount 0 v) (limit.size + 1) ≡ n = ap (λ o. unwrap_or o 0) k in rw (lt-leb (amount 0 v) m (omega (arith, q, l))) (and-false (ltb 48 (head_or 0 v)))
    go false k = refl

index-within : (m : ℕ) (v : List ℕ) → m ≤ 32 → 48 < head_or 0 v → {n : ℕ} → measured v ≡ Some n → n ≤ m → (is_index m v ≡ true) × (n ≡ amount 0 v)
unfolding is_index measured
index-within m v h z {n} e l = go (unsigned v) e
  where
    go : (t : Bool) → cond t (Some (min (amount 0 v) (limit.size + 1))) None ≡ Some n → ((t && ltb 48 (head_or 0 v)) && leb (amount 0 v) m ≡ true) × (n ≡ amount 0 v)
    go true k =
        let q : min (amount 0 v) (limit.size + 1) ≡ n = ap (λ o. unwrap_or o 0) k in
        (rw (lt-ltb 48 (head_or 0 v) z, le-leb (amount 0 v) m (omega (arith, q, l, h))), omega (arith, q, l, h))
    go false k = cc

pub indexed_none : (w : List ℕ) → length w ≡ 0 → None ≡ indexed_of w
unfolding indexed_of is_index
indexed_none [] h = refl
indexed_none (b ∷ w) h = absurd (omega (arith, h))

module _ (b : ℕ) (v : List ℕ) (small : b < 256) where
  pub indexed-other : letter_at b ≡ 12 → None ≡ indexed_of (b ∷ v)
  unfolding indexed_of
  indexed-other h = rw ((known b small).letter, h)

  -- b is the byte of the letter l
  module _ (l : Letter) (at : letter_place l ≡ letter_at b) where
    abbrev top : ℕ
    top = indices (use_of l).var

    indexed-by : indexed_of (b ∷ v) ≡ cond (is_index top v) (found l (amount 0 v)) None
    unfolding indexed_of
    indexed-by =
        let k = known b small in
        let low : letter_at b < 12 = rw at at (ltb→lt (letter_place l) 12 (every-letter (λ m. ltb (letter_place m) 12) tt l)) in
        let same : letter_of b ≡ l = sym (letter-back (letter_of b)) ∙ ap (λ n. get_or letters n A) (k.place low ∙ sym at) ∙ letter-back l in
        rw (k.letter, same, lt-ltb (letter_at b) 12 low)

    none_of : is_index top v ≡ false → None ≡ indexed_of (b ∷ v)
    none_of e = sym (indexed-by ∙ rw e)

    pub indexed-short : length v ≡ 0 → None ≡ indexed_of (b ∷ v)
    indexed-short h = none_of (index-empty top v h)

    pub indexed-zero : get_or v 0 0 ≤ 48 → None ≡ indexed_of (b ∷ v)
    indexed-zero h = none_of (index-zero top v (rw (leading v) h))

    pub indexed-no : measured v ≡ None → None ≡ indexed_of (b ∷ v)
    indexed-no e = none_of (index-none top v e)

    pub indexed-beyond : top ≤ 32 → {n : ℕ} → measured v ≡ Some n → top < n → None ≡ indexed_of (b ∷ v)
    indexed-beyond m e h = none_of (index-beyond top v m e h)

    pub indexed-found : top ≤ 32 → 48 < get_or v 0 0 → {n : ℕ} → measured v ≡ Some n → n ≤ top → found l n ≡ indexed_of (b ∷ v)
    indexed-found m z e h =
        let k = index-within top v m (rw (leading v) z) e h in
        sym (indexed-by ∙ rw (k.0, k.1))
