-- Every item is of one of the seventeen kinds, by what its word is.
use Rattle.std.specs.Prelude.{◌≡◌, refl, Bool, true, false, cond, ◌&&◌, ◌||◌, not, ℕ, ◌<◌, eqb, leb, ltb, drop}
use Rattle.std.proofs.Common.{ap, sym, ◌∙◌, subst, arith, eqb→eq, leb→le, T_not, ltb→lt, lit<, eqb-true, ne_eqb}
use Rattle.std.proofs.Math.Bool.{and-false, or-true}
use mathlib.Core.List.{List, [], ◌∷◌, map}
use Rattle.std.proofs.Math.Dec.{T}
use Rattle.std.proofs.lemmas.Bool.{lt-leb}
use lib.Ieee.Bits.{is_true}
use Rattle.std.specs.Bool.{passes}
use Rattle.characters.specs.Characters.{is_capital, is_digit}
use Rattle.language.specs.Letters.{Letter, letters, letter_code, indices, use_of}
use Rattle.language.specs.Letters.Letter.{A, B, C, D, E, I, N, P, Q, T as T', Y, Z}
use Rattle.language.specs.Program.{identifier}
use Rattle.language.specs.Values.{amount, unsigned, numeral, value_of, in_range}
use Rattle.words.specs.Below.Table.{letter_place}
use Rattle.lists.specs.ListLaws.{T-left, T-right, T-both, all_head, all_tail, all_cons, all_among}
use Rattle.lists.specs.Lists.{all, any, head_or}
use Rattle.lists.specs.Quoted.{bytes}
use Rattle.words.specs.Below.ArgumentForms.{form_in, is_index, is_indexed, letter_of, word_reads, reads}
use Rattle.words.proofs.Below.LetterLaws.{letter_of-code, every-letter}
use Rattle.words.specs.Below.Items.{Item, is}
use Rattle.words.specs.Below.Items.Sort.{text}
use Rattle.words.specs.Words.{class_letter, is_class}
use Rattle.forms.specs.Forms.{forms, bits, bit_of}
use Rattle.forms.specs.Kinds.{kind_reads, OfKind, word_kinds, item_kinds}

-- how a word reads: as a number, a class, a name; as indexed letters by g
abbrev shape : Bool → Bool → Bool → (Letter → Bool) → ℕ → Bool
shape n c i g f =
    cond (form_in "n" f) n (cond (form_in "c" f) c (cond (form_in "lwx" f) i (any (λ l. eqb f (letter_code l) && g l) letters)))

abbrev number : List ℕ → Bool
number w = numeral w && in_range (value_of w)

shaped : (w : List ℕ) → map (word_reads w) forms ≡ map (shape (number w) (is_class w) (identifier w) (is_indexed w)) forms
unfolding word_reads is_class
shaped w = refl

no-letter : (n c i : Bool) (g : Letter → Bool) → ((l : Letter) → g l ≡ false) → map (shape n c i g) forms ≡ map (shape n c i (λ l. false)) forms
no-letter n c i g h = rw (h A, h B, h C, h D, h E, h I, h N, h P, h Q, h T', h Y, h Z)

one-letter : (l : Letter) (f : ℕ → Bool) → f (indices (use_of l).var) ≡ true
    → map (shape false false true (λ m. eqb (letter_code l) (letter_code m) && f (indices (use_of m).var))) forms ≡ map (kind_reads (letter_place l)) forms
one-letter A f h = rw h
one-letter B f h = rw h
one-letter C f h = rw h
one-letter D f h = rw h
one-letter E f h = rw h
one-letter I f h = rw h
one-letter N f h = rw h
one-letter P f h = rw h
one-letter Q f h = rw h
one-letter T' f h = rw h
one-letter Y f h = rw h
one-letter Z f h = rw h

-- Laws of the four ways to read a word

letter_is : (l : Letter) → T (is_capital (letter_code l))
letter_is l = every-letter (λ m. is_capital (letter_code m)) tt l

pub place-small : (l : Letter) → letter_place l < 12
place-small l = ltb→lt (letter_place l) 12 (every-letter (λ m. ltb (letter_place m) 12) tt l)

abbrev continues : ℕ → Bool
continues x = is_capital x || is_digit x

letter-continues : (x : ℕ) → T (is_capital x) → T (continues x)
letter-continues x h = rw (is_true (is_capital x) h) tt

digit-continues : (x : ℕ) → T (is_digit x) → T (continues x)
digit-continues x h = rw (is_true (is_digit x) h, or-true (is_capital x)) tt

all-each : (p q : ℕ → Bool) → ((x : ℕ) → T (p x) → T (q x)) → (w : List ℕ) → T (all p w) → T (all q w)
all-each p q f [] h = tt
all-each p q f (x ∷ w) h = all_cons q x w (f x (all_head p x w h)) (all-each p q f w (all_tail p x w h))

class-letters : (x : ℕ) → T (class_letter x) → T (is_capital x)
class-letters x h = all_among is_capital (bytes "LDBR") tt x h

class-no-digit : (x : ℕ) → T (class_letter x) → T (is_digit x) → ⊥
class-no-digit x h d = T_not (is_digit x) (all_among (λ y. not (is_digit y)) (bytes "LDBR") tt x h) d

unsigned-all : (w : List ℕ) → T (unsigned w) → T (all is_digit w)
unsigned-all [] h = absurd h
unsigned-all (x ∷ w) h = h

index-digits : (m : ℕ) (w : List ℕ) → T (is_index m w) → T (unsigned w)
unfolding is_index
index-digits m w h =
    T-left (unsigned w) (ltb 48 (head_or 0 w)) (T-left (unsigned w && ltb 48 (head_or 0 w)) (leb (amount 0 w) m) h)

module _ (l : Letter) where
  abbrev most : ℕ
  most = indices (use_of l).var

  -- an indexed letter is an identifier
  pub indexed-name : (w : List ℕ) → T (is_indexed w l) → T (identifier w)
  indexed-name [] h = absurd (index-digits most [] (T-right (eqb 0 (letter_code l)) (is_index most []) h))
  indexed-name (b ∷ w) h =
      let e : b ≡ letter_code l = eqb→eq b (letter_code l) (T-left (eqb b (letter_code l)) (is_index most w) h) in
      let d = unsigned-all w (index-digits most w (T-right (eqb b (letter_code l)) (is_index most w) h)) in
      T-both (is_capital b) (all continues w) (rw e (letter_is l)) (all-each is_digit continues digit-continues w d)

  -- and no class
  pub indexed-class : (w : List ℕ) → T (is_indexed w l) → T (is_class w) → ⊥
  unfolding is_class
  indexed-class [] h c = c
  indexed-class (b ∷ w) h c =
      second w (index-digits most w (T-right (eqb b (letter_code l)) (is_index most w) h)) (all_tail class_letter b w c)
    where
      second : (v : List ℕ) → T (unsigned v) → T (all class_letter v) → ⊥
      second [] u k = u
      second (x ∷ v) u k = class-no-digit x (all_head class_letter x v k) (T-left (is_digit x) (all is_digit v) u)

-- a class is an identifier
pub class-name : (w : List ℕ) → T (is_class w) → T (identifier w)
unfolding is_class
class-name [] h = h
class-name (b ∷ w) h =
    T-both (is_capital b) (all continues w) (class-letters b (all_head class_letter b w h))
    (all-each class_letter continues (λ x k. letter-continues x (class-letters x k)) w (all_tail class_letter b w h))

-- a number is none
pub name-number : (w : List ℕ) → T (identifier w) → numeral w ≡ false
name-number [] h = absurd h
name-number (b ∷ w) h =
    let l = leb→le 65 b (T-left (leb 65 b) (leb b 90) (T-left (is_capital b) (all continues w) h)) in
    rw (ne_eqb b 43 (λ e. omega arith), ne_eqb b 45 (λ e. omega arith), lt-leb b 57 (omega arith), and-false (leb 48 b))

-- what holds only of identifiers does not hold of another word
refuted : (t : Bool) {u : Bool} → (T t → T u) → u ≡ false → t ≡ false
refuted true f e = absurd (subst T e (f tt))
refuted false f e = refl

denied : (t : Bool) → (T t → ⊥) → t ≡ false
denied true f = absurd (f tt)
denied false f = refl

module _ (w : List ℕ) where
  abbrev first : Letter
  first = letter_of (head_or 0 w)

  -- a word that is no indexed letter of its first byte is none at all
  no_other : is_indexed w first ≡ false → (l : Letter) → is_indexed w l ≡ false
  no_other h l = go (eqb (head_or 0 w) (letter_code l)) refl
    where
      go : (t : Bool) → eqb (head_or 0 w) (letter_code l) ≡ t → (t && is_index (indices (use_of l).var) (drop 1 w)) ≡ false
      go true e =
          let f : first ≡ l = rw (eqb-true (head_or 0 w) (letter_code l) e) (letter_of-code l) in
          sym (ap (λ t. t && is_index (indices (use_of l).var) (drop 1 w)) e) ∙ ap (is_indexed w) (sym f) ∙ h
      go false e = refl

  plain : (n c i : Bool) → number w ≡ n → is_class w ≡ c → identifier w ≡ i → ((l : Letter) → is_indexed w l ≡ false)
      → map (word_reads w) forms ≡ map (shape n c i (λ l. false)) forms
  plain n c i e f g h = shaped w ∙ rw (e, f, g) (no-letter n c i (is_indexed w) h)

  module _ (e : identifier w ≡ false) where
    no-class : is_class w ≡ false
    no-class = refuted (is_class w) (class-name w) e

    no_index : (l : Letter) → is_indexed w l ≡ false
    no_index l = refuted (is_indexed w l) (indexed-name l w) e

    pub of_number : number w ≡ true → OfKind (word_reads w) 12
    of_number n = record { small = lit< tt; forms_read = plain true false false n no-class e no_index }

    pub of-nothing : number w ≡ false → OfKind (word_reads w) 16
    of-nothing n = record { small = lit< tt; forms_read = plain false false false n no-class e no_index }

  module _ (e : identifier w ≡ true) where
    no_number : number w ≡ false
    no_number = rw (name-number w (passes _ e))

    pub of-class : is_class w ≡ true → OfKind (word_reads w) 13
    of-class c =
        record { small = lit< tt; forms_read = plain false true true no_number c e (λ l. denied (is_indexed w l) (λ h. indexed-class l w h (passes _ c))) }

    module _ (c : is_class w ≡ false) where
      pub of-name : is_indexed w first ≡ false → OfKind (word_reads w) 15
      of-name h = record { small = lit< tt; forms_read = plain false false true no_number c e (no_other h) }

      lettered : (l : Letter) → T (is_indexed w l) → OfKind (word_reads w) (letter_place l)
      lettered l h =
          let b : head_or 0 w ≡ letter_code l = eqb→eq (head_or 0 w) (letter_code l) (T-left (eqb (head_or 0 w) (letter_code l)) (is_index (indices (use_of l).var) (drop 1 w)) h) in
          let i = T-right (eqb (head_or 0 w) (letter_code l)) (is_index (indices (use_of l).var) (drop 1 w)) h in
          record {
            small = omega (arith, place-small l);
            forms_read = shaped w ∙ rw (no_number, c, e, b) (one-letter l (λ m. is_index m (drop 1 w)) (is_true (is_index (indices (use_of l).var) (drop 1 w)) i));
          }

      pub of-letter : is_indexed w first ≡ true → OfKind (word_reads w) (letter_place first)
      of-letter h = lettered first (passes _ h)

  -- every word is of some kind
  name-kind : identifier w ≡ true → (c i : Bool) → is_class w ≡ c → is_indexed w first ≡ i → (k : ℕ) × OfKind (word_reads w) k
  name-kind e true i c h = (13, of-class e c)
  name-kind e false true c h = (letter_place first, of-letter e c h)
  name-kind e false false c h = (15, of-name e c h)

  some-kind : (t n : Bool) → identifier w ≡ t → number w ≡ n → (k : ℕ) × OfKind (word_reads w) k
  some-kind true n e h = name-kind e (is_class w) (is_indexed w first) refl refl
  some-kind false true e h = (12, of_number e h)
  some-kind false false e h = (16, of-nothing e h)

  pub word-kind : (k : ℕ) × OfKind (word_reads w) k
  word-kind = some-kind (identifier w) (number w) refl refl

-- and so is every item
pub of-text : (i : Item) → is text i ≡ true → OfKind (reads i) 14
unfolding reads
of-text i e = record { small = lit< tt; forms_read = rw e }

pub of_word : (i : Item) → is text i ≡ false → {k : ℕ} → OfKind (word_reads i.chars) k → OfKind (reads i) k
unfolding reads
of_word i e o = record { small = o.small; forms_read = rw e o.forms_read }

pub item-kind : (i : Item) → (k : ℕ) × OfKind (reads i) k
item-kind i = go (is text i) refl
  where
    go : (t : Bool) → is text i ≡ t → (k : ℕ) × OfKind (reads i) k
    go true e = (14, of-text i e)
    go false e = let k = word-kind i.chars in (k.0, of_word i e k.1)

-- the sets that items read as
pub text-kinds : (i : Item) → is text i ≡ true → item_kinds i ≡ bit_of 116
unfolding item_kinds
text-kinds i e = ap bits (of-text i e).forms_read

pub word_kinds-of : (i : Item) → is text i ≡ false → item_kinds i ≡ word_kinds i.chars
unfolding item_kinds word_kinds reads
word_kinds-of i e = rw e
