-- The form of a set of one, and the set of the forms that a word reads as.
use mathlib.Core.Path.{◌≡◌, refl, ap, sym, ◌∙◌}
use mathlib.Core.Bool.{Bool, true, false, cond, ◌&&◌, ◌||◌}
use mathlib.Core.List.{List, [], ◌∷◌, map}
use Prim.Native.Nat.{ℕ, ◌+◌, ◌^◌, ◌<◌}
use lib.Dec.{eqb, eqb→eq}
use lib.ListN.{drop}
use Rattle.language.specs.Letters.{Letter}
use Rattle.language.specs.Letters.Letter.{A}
use Rattle.language.specs.Program.{identifier}
use Rattle.language.specs.Values.{amount, numeral, value_of, in_range}
use Rattle.words.specs.Below.LayoutCells.{code}
use Rattle.words.specs.Below.Table.{letter_place}
use Rattle.lists.specs.Lists.{head_or, keep, among}
use Rattle.lists.specs.TableLaws.{below, Missed, missed}
use Rattle.words.specs.Below.ArgumentForms.{is_indexed, letter_of, word_reads}
use Rattle.words.specs.Words.{is_class, numeral_of, indexed_of}
use Rattle.std.proofs.Common.{Option, None, Some, eqb-true}
use Rattle.std.proofs.lemmas.Bool.{eqb-false}
use Rattle.forms.specs.Forms.{forms, bits, mask, bit_of, only, set_at}
use Rattle.forms.specs.Reading.{Reads, lives_first, lives_second, if_form, if_taken, shared, taken, taken_at}
use Rattle.forms.specs.declared.Live.{Live}
use Rattle.forms.specs.Kinds.{kind_reads, OfKind, word_kinds}
use Rattle.forms.specs.KindLaws.{place-small, of_number, of-nothing, of-class, of-name, of-letter}

pub only_arm : {s k : ℕ} → s ≡ k → if_form (only k) ≡ if_form (only s)
only_arm e = ap (λ (n : ℕ). if_form (only n)) (sym e)

none_kept : (g : ℕ → ℕ) (s : ℕ) (xs : List ℕ) → among s (map g xs) ≡ false → keep (λ f. eqb s (g f)) xs ≡ []
none_kept g s [] h = refl
none_kept g s (x ∷ xs) h = go (eqb s (g x)) h (none_kept g s xs)
  where
    go : (t : Bool) → (t || among s (map g xs)) ≡ false → (among s (map g xs) ≡ false → keep (λ f. eqb s (g f)) xs ≡ [])
        → cond t (x ∷ keep (λ f. eqb s (g f)) xs) (keep (λ f. eqb s (g f)) xs) ≡ []
    go true e k = cc
    go false e k = k e

abbrev listed : List ℕ
listed = 1 ∷ 2 ∷ 4 ∷ 8 ∷ 16 ∷ 32 ∷ 64 ∷ 128 ∷ 256 ∷ 512 ∷ 1024 ∷ 2048 ∷ 4096 ∷ 8192 ∷ 16384 ∷ 32768 ∷ 65536 ∷ 131072 ∷ []

-- of the last form, nothing, and of any set of more than one the code tells none
pub only_rest : (s : ℕ) → Missed (Unit {0}) listed s → None ≡ if_form (only s)
unfolding only
only_rest s m = go (eqb s 262144) refl
  where
    go : (t : Bool) → eqb s 262144 ≡ t → None ≡ if_form (only s)
    go true e = rw (eqb-true s 262144 e)
    go false e = sym (ap (λ (fs : List ℕ). if_form (head_or 45 fs)) (none_kept bit_of s forms (missed (map bit_of forms) s (m, eqb-false s 262144 e))))

-- what is taken by the parts that the code makes
pub taken_parts : (op place kinds : ℕ) (live : Live) {p q : Bool} {a b c d : ℕ} {r : Option Reads} → p ≡ lives_first live → q ≡ lives_second live
    → c ≡ set_at op 0 place → d ≡ set_at op 1 place → a ≡ shared p kinds c → b ≡ shared q kinds d → r ≡ if_taken (taken live a b)
    → r ≡ if_taken (taken_at op live place kinds)
unfolding taken_at
taken_parts op place kinds live f g u v x y z = rw (z, x, y, u, v, f, g)

-- a word of a kind
pub kinds_by : (w : List ℕ) {k : ℕ} → OfKind (word_reads w) k → mask (kind_reads k) ≡ word_kinds w
unfolding word_kinds
kinds_by w o = ap bits (sym o.forms_read)

lettered : ℕ → Bool
lettered k = eqb (229376 + 2 ^ k) (mask (kind_reads k))

letter-set : (k : ℕ) → k < 12 → 229376 + 2 ^ k ≡ mask (kind_reads k)
unfolding lettered
letter-set k h = eqb→eq (229376 + 2 ^ k) (mask (kind_reads k)) (below lettered 12 tt k h)

-- what the answers of `number_of` and `indexed` say of the word
module _ (w : List ℕ) where
  abbrev number : Bool
  number = numeral w && in_range (value_of w)

  some_number : {n : ℕ} → Some n ≡ numeral_of w → number ≡ true
  unfolding numeral_of
  some_number {n} e = go number e
    where
      go : (t : Bool) → Some n ≡ cond t (Some (code (value_of w))) None → t ≡ true
      go true e = refl
      go false e = cc

  no_number : None ≡ numeral_of w → number ≡ false
  unfolding numeral_of
  no_number e = go number e
    where
      go : (t : Bool) → None ≡ cond t (Some (code (value_of w))) None → t ≡ false
      go true e = cc
      go false e = refl

  abbrev first : Letter
  first = letter_of (head_or 0 w)

  abbrev lettered_by : Letter → ℕ → Option (Letter × ℕ)
  lettered_by l n = Some (l, n)

  abbrev letter_in : Option (Letter × ℕ) → Letter
  letter_in None = A
  letter_in (Some x) = x.0

  some-letter : {l : Letter} {n : ℕ} → lettered_by l n ≡ indexed_of w → (is_indexed w first ≡ true) × (l ≡ first)
  unfolding indexed_of
  some-letter {l} {n} e = go (is_indexed w first) e
    where
      go : (t : Bool) → lettered_by l n ≡ cond t (lettered_by first (amount 0 (drop 1 w))) None → (t ≡ true) × (l ≡ first)
      go true e = (refl, ap letter_in e)
      go false e = (cc, cc)

  no-letter : None ≡ indexed_of w → is_indexed w first ≡ false
  unfolding indexed_of
  no-letter e = go (is_indexed w first) e
    where
      go : (t : Bool) → None ≡ cond t (lettered_by first (amount 0 (drop 1 w))) None → t ≡ false
      go true e = cc
      go false e = refl

  module _ (e : identifier w ≡ false) where
    pub number-kind : {n : ℕ} → Some n ≡ numeral_of w → 4096 ≡ word_kinds w
    number-kind h = kinds_by w (of_number w e (some_number h))

    pub no_kind : None ≡ numeral_of w → 0 ≡ word_kinds w
    no_kind h = kinds_by w (of-nothing w e (no_number h))

  module _ (e : identifier w ≡ true) where
    pub class-kind : is_class w ≡ true → 237568 ≡ word_kinds w
    class-kind c = kinds_by w (of-class w e c)

    module _ (c : is_class w ≡ false) where
      pub letter-kind : {l : Letter} {n : ℕ} → lettered_by l n ≡ indexed_of w → 229376 + 2 ^ letter_place l ≡ word_kinds w
      letter-kind h =
          let s = some-letter h in
          rw s.1 (letter-set (letter_place first) (place-small first) ∙ kinds_by w (of-letter w e c s.0))

      pub name-kind : None ≡ indexed_of w → 229376 ≡ word_kinds w
      name-kind h = kinds_by w (of-name w e c (no-letter h))
