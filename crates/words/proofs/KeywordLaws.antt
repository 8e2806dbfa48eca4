-- The keyword that a word is: the word of an edition to which alone its slot leads there, in one edition or in the other, or none.
use mathlib.Core.Path.{◌≡◌, refl, ap, sym, ◌∙◌, subst}
use mathlib.Core.Bool.{Bool, true, false, not, cond, ◌&&◌, ◌||◌, beq, false≢true}
use mathlib.Core.List.{List, [], ◌∷◌, ◌++◌, map}
use Prim.Native.Nat.{ℕ, suc, ◌<◌, ◌+◌, ◌-◌, ◌≤◌}
use Prim.Native.String.{String}
use native.Mathlib.Decide.{dec_lt}
use native.Mathlib.Omega.{arith}
use lib.Dec.{eqb, eqb→eq, T, leb, leb→le, ltb, ltb→lt}
use lib.ListN.{get_or, length, get_or-append, get_or-map, get_or-eq_default}
use lib.Seq.{get_or-append-add}
use Rattle.lists.specs.SearchLaws.{ahead-map}
use Rattle.syntax.specs.Below.Lists.{any, ahead, bytes_equal}
use Rattle.syntax.specs.Below.Quoted.{bytes}
use Rattle.syntax.specs.Below.ListsTableLaws.{below, beq-eq}
use Rattle.syntax.specs.Statements as Spec
use Rattle.syntax.specs.Statements.{editions, words_of, own, reserved, same_keyword}
use Rattle.words.specs.Keywords.{keyword_by, told, edition_of, known_by, own_by, is_own, known, is_english, word_at, is_shared, FoundAt, Found, place_in, Placed, other_word, meanings, keyword_at, shared, edition_at, slot, in_a_row, beginnings, guesses, guess, of_row, InRow, Lent}
use Rattle.words.specs.declared.Edition.{Edition}
use Rattle.words.specs.declared.Keyword.{Keyword}
use Rattle.words.proofs.Operators.{same-operator}
use Rattle.language.specs.Instructions.{number_of}
use Rattle.language.specs.Operators.{op_by}
use Rattle.language.specs.declared.Operator.{Operator}
use Rattle.std.specs.Bool.{then_some}
use Rattle.std.specs.Option.{is_some}
use Rattle.std.specs.Prelude.{Option, Some, None}
use borrow.Author.Tests.{lt-ltb, le-ltb}
use Rattle.appending.proofs.Below.LayoutCellLaws.{found}
use Rattle.syntax.specs.Below.ListLaws.{T-left, T-right, same_bytes-eq, same_bytes-refl}

pub many : (e : Bool) → length (words_of e) ≡ 46
many true = refl
many false = refl

-- ---- the constants, computed for each word and each slot

long : Bool → ℕ
long e = cond e 194 221

ordered : Bool → ℕ → Bool
ordered e j =
    leb (get_or (beginnings e) j 0) (get_or (beginnings e) (j + 1) 0)
    && (leb (get_or (beginnings e) (j + 1) 0) (long e) && bytes_equal (of_row j (in_a_row e) (beginnings e)) (word_at e j))

all-ordered : (e : Bool) (j : ℕ) → j < 46 → T (ordered e j)
unfolding long ordered in_a_row beginnings
all-ordered true = below (ordered true) 46 tt
all-ordered false = below (ordered false) 46 tt

guessable : Bool → ℕ → Bool
guessable e h = leb 40 (get_or (guesses e) h 0) && leb (get_or (guesses e) h 0) 85

all-guessable : (e : Bool) (h : ℕ) → h < 128 → T (guessable e h)
unfolding guessable guesses
all-guessable true = below (guessable true) 128 tt
all-guessable false = below (guessable false) 128 tt

-- a word leads to itself, and has its own place
leads : Bool → ℕ → Bool
leads e j = eqb (guess e (word_at e j)) j && eqb (place_in e (word_at e j)) j

all-lead : (e : Bool) (j : ℕ) → j < 46 → T (leads e j)
unfolding leads guesses slot guess place_in
all-lead true = below (leads true) 46 tt
all-lead false = below (leads false) 46 tt

row-long : (e : Bool) → length (in_a_row e) ≡ long e
unfolding in_a_row long
row-long true = refl
row-long false = refl

starts-many : (e : Bool) → length (beginnings e) ≡ 47
unfolding beginnings
starts-many true = refl
starts-many false = refl

slots-many : (e : Bool) → length (guesses e) ≡ 128
unfolding guesses
slots-many true = refl
slots-many false = refl

-- the part of the row that is the word at place j
pub named : {e : Bool} {row starts slots : List ℕ} {i j : ℕ} → i ≡ j → j < 46 → Lent e row starts slots → InRow i row starts × (of_row i row starts ≡ word_at e j)
unfolding ordered
named {e} {j = j} p h l =
    let a : Bool = leb (get_or (beginnings e) j 0) (get_or (beginnings e) (j + 1) 0) in
    let b : Bool = leb (get_or (beginnings e) (j + 1) 0) (long e) in
    let s : Bool = bytes_equal (of_row j (in_a_row e) (beginnings e)) (word_at e j) in
    let t : T (a && (b && s)) = all-ordered e j h in
    let u : T (b && s) = T-right a (b && s) t in
    let order = leb→le (get_or (beginnings e) j 0) (get_or (beginnings e) (j + 1) 0) (T-left a (b && s) t) in
    let within = leb→le (get_or (beginnings e) (j + 1) 0) (long e) (T-left b s u) in
    rw (p, l.row_is, l.starts_are)
    (record { room = omega (arith, h, starts-many e); order = order; within = omega (arith, within, row-long e) }, same_bytes-eq (of_row j (in_a_row e) (beginnings e)) (word_at e j) (T-right b s u))

pub guess-at : (e : Bool) (h : ℕ) {slots : List ℕ} → h < 128 → slots ≡ guesses e
    → (length slots ≡ 128) × (40 ≤ get_or slots h 0) × (get_or slots h 0 ≤ 85) × (get_or slots h 0 ≡ get_or (guesses e) h 0)
unfolding guessable
guess-at e h k p =
    let g = get_or (guesses e) h 0 in
    let t = all-guessable e h k in
    rw p (slots-many e, leb→le 40 g (T-left (leb 40 g) (leb g 85) t), leb→le g 85 (T-right (leb 40 g) (leb g 85) t), refl)

-- ---- lists

pub none_ahead : {X : Type 0} (p : X → Bool) (xs : List X) → any p xs ≡ false → ahead p xs ≡ length xs
none_ahead p [] h = refl
none_ahead p (x ∷ xs) h = go (p x) h (none_ahead p xs)
  where
    go : (t : Bool) → (t || any p xs) ≡ false → (any p xs ≡ false → ahead p xs ≡ length xs) → elim t [ true ↦ 0 | false ↦ suc (ahead p xs) ] ≡ suc (length xs)
    go true e k = cc
    go false e k = ap suc (k e)

module _ {X : Type 0} (p : X → Bool) (ys : List X) where
  ahead-first : (xs : List X) → any p xs ≡ true → ahead p (xs ++ ys) ≡ ahead p xs
  ahead-first [] h = cc
  ahead-first (x ∷ xs) h = go (p x) h (ahead-first xs)
    where
      go : (t : Bool) → (t || any p xs) ≡ true → (any p xs ≡ true → ahead p (xs ++ ys) ≡ ahead p xs)
          → ◌≡◌ {A = ℕ} (elim t [ true ↦ 0 | false ↦ suc (ahead p (xs ++ ys)) ]) (elim t [ true ↦ 0 | false ↦ suc (ahead p xs) ])
      go true e k = refl
      go false e k = ap suc (k e)

  ahead-later : (xs : List X) → any p xs ≡ false → ahead p (xs ++ ys) ≡ length xs + ahead p ys
  ahead-later [] h = omega arith
  ahead-later (x ∷ xs) h = go (p x) h (ahead-later xs)
    where
      go : (t : Bool) → (t || any p xs) ≡ false → (any p xs ≡ false → ahead p (xs ++ ys) ≡ length xs + ahead p ys)
          → ◌≡◌ {A = ℕ} (elim t [ true ↦ 0 | false ↦ suc (ahead p (xs ++ ys)) ]) (suc (length xs) + ahead p ys)
      go true e k = cc
      go false e k = omega (arith, k e)

module _ {X Y : Type 0} (p : Y → Bool) (f : X → Y) where
  any-map : (xs : List X) → any p (map f xs) ≡ any (λ x. p (f x)) xs
  any-map [] = refl
  any-map (x ∷ xs) = ap (λ t. p (f x) || t) (any-map xs)

-- ---- the place of a word in an edition

module _ (e : Bool) (w : List ℕ) where
  -- one of the words is the word, or none is
  pub data Case : Type 0 where
    one : (j : ℕ) → j < 46 → w ≡ word_at e j → Case
    none : any (bytes_equal w) (words_of e) ≡ false → Case

  which : (t : Bool) → any (bytes_equal w) (words_of e) ≡ t → Case
  which true h =
      let f = found (bytes_equal w) [] (words_of e) (subst T (sym h) tt) in
      let j : ℕ = ahead (bytes_equal w) (words_of e) in
      one j (rw (many e) at f.1) (same_bytes-eq w (word_at e j) f.0)
  which false h = none h

  pub case : Case
  case = which (any (bytes_equal w) (words_of e)) refl

  pub no_place : any (bytes_equal w) (words_of e) ≡ false → place_in e w ≡ 46
  unfolding place_in
  no_place h = none_ahead (bytes_equal w) (words_of e) h ∙ many e

  module _ (j : ℕ) (h : j < 46) (q : w ≡ word_at e j) where
    led-here : guess e w ≡ j
    unfolding leads
    led-here = rw q (eqb→eq (guess e (word_at e j)) j (T-left (eqb (guess e (word_at e j)) j) (eqb (place_in e (word_at e j)) j) (all-lead e j h)))

    pub its-place : place_in e w ≡ j
    unfolding leads
    its-place = rw q (eqb→eq (place_in e (word_at e j)) j (T-right (eqb (guess e (word_at e j)) j) (eqb (place_in e (word_at e j)) j) (all-lead e j h)))

  -- what the guess leads to
  guessed-right : (j : ℕ) → j < 46 → bytes_equal w (word_at e j) ≡ true → j ≡ place_in e w
  guessed-right j h t = sym (its-place j h (same_bytes-eq w (word_at e j) (subst T (sym t) tt)))

  guessed-wrong : (j : ℕ) → guess e w ≡ j → bytes_equal w (word_at e j) ≡ false → 46 ≡ place_in e w
  guessed-wrong j g t = go case
    where
      go : Case → 46 ≡ place_in e w
      go (one i h q) =
          let s : i ≡ j = sym (led-here i h q) ∙ g in
          let u = subst (λ (k : ℕ). T (bytes_equal w (word_at e k))) s (subst (λ v. T (bytes_equal w v)) q (same_bytes-refl w)) in
          absurd (subst T t u)
      go (none n) = sym (no_place n)

  pub guessed : {j : ℕ} → j < 46 → guess e w ≡ j → {t : Bool} → t ≡ bytes_equal w (word_at e j) → Placed e w (then_some t j)
  guessed {j} l g {t = true} h = (guessed-right j l (sym h), l)
  guessed {j} l g {t = false} h = sym (guessed-wrong j g (sym h))

  -- a word of the edition is one that has a place there
  pub has-place : any (bytes_equal w) (words_of e) ≡ ltb (place_in e w) 46
  has-place = go case
    where
      go : Case → any (bytes_equal w) (words_of e) ≡ ltb (place_in e w) 46
      go (one j h q) = there (any (bytes_equal w) (words_of e)) refl ∙ sym (lt-ltb (place_in e w) 46 (omega (arith, its-place j h q, h)))
        where
          there : (t : Bool) → any (bytes_equal w) (words_of e) ≡ t → any (bytes_equal w) (words_of e) ≡ true
          there true n = n
          there false n = absurd (omega (arith, no_place n, its-place j h q, h))
      go (none n) = n ∙ sym (le-ltb (place_in e w) 46 (omega (arith, no_place n)))

-- ---- keywords by places

-- an instruction's number, 0 for another keyword
instr-number : Option Keyword → ℕ
instr-number None = 0
instr-number (Some Keyword.Sekcja) = 0
instr-number (Some Keyword.Kons) = 0
instr-number (Some Keyword.Konp) = 0
instr-number (Some (Keyword.Switch goes_by_name)) = 0
instr-number (Some (Keyword.Instr o)) = number_of (op_by o)

is-instr : (k : Option Keyword) (o : Operator) → 0 < number_of (op_by o) → instr-number k ≡ number_of (op_by o) → Some (Keyword.Instr o) ≡ k
unfolding instr-number
is-instr None o l e = absurd (omega (arith, l, e))
is-instr (Some Keyword.Sekcja) o l e = absurd (omega (arith, l, e))
is-instr (Some Keyword.Kons) o l e = absurd (omega (arith, l, e))
is-instr (Some Keyword.Konp) o l e = absurd (omega (arith, l, e))
is-instr (Some (Keyword.Switch goes_by_name)) o l e = absurd (omega (arith, l, e))
is-instr (Some (Keyword.Instr p)) o l e = ap (λ q. Some (Keyword.Instr q)) (same-operator o p (sym e))

-- each pair behind the fifth is an instruction's
an-instr : ℕ → Bool
an-instr i = eqb (instr-number (keyword_at (i + 5))) (i + 1)

instr-placed : (i : ℕ) → i < 41 → instr-number (keyword_at (i + 5)) ≡ i + 1
unfolding an-instr instr-number keyword_at
instr-placed i h = eqb→eq (instr-number (keyword_at (i + 5))) (i + 1) (below an-instr 41 tt i h)

pub keyword-instr : (j : ℕ) → 5 ≤ j → j < 46 → {o : Operator} → number_of (op_by o) ≡ j - 4 → Some (Keyword.Instr o) ≡ keyword_at j
keyword-instr j l h {o} e =
    let a : j - 5 + 1 ≡ j - 4 = omega arith in
    let b : j - 5 + 5 ≡ j = omega arith in
    is-instr (keyword_at j) o (omega (arith, e)) ((rw (a, b) at (instr-placed (j - 5) (omega arith))) ∙ sym e)

pub keyword-beyond : (j : ℕ) → 46 ≤ j → None ≡ keyword_at j
unfolding keyword_at
keyword-beyond j h = sym (ap told (get_or-eq_default meanings Spec.Keyword.unknown h))

-- a word among pairs of words, the first words before the second ones
module _ (w : List ℕ) (rs : List (String × String × Spec.Keyword)) where
  abbrev Row : Type 0
  Row = String × String × Spec.Keyword

  abbrev Named : Type 0
  Named = String × Spec.Keyword

  abbrev spells : Named → Bool
  spells k = bytes_equal w (bytes k.0)

  abbrev left : Row → Named
  left r = (r.0, r.2)

  abbrev right : Row → Named
  right r = (r.1, r.2)

  abbrev lefts : List (List ℕ)
  lefts = map (λ r. bytes r.0) rs

  abbrev rights : List (List ℕ)
  rights = map (λ r. bytes r.1) rs

  abbrev all_named : List Named
  all_named = map left rs ++ map right rs

  abbrev meant_by : List Spec.Keyword
  meant_by = map (λ r. r.2) rs

  no_name : Named
  no_name = ("", Spec.Keyword.unknown)

  no_row : Row
  no_row = ("", "", Spec.Keyword.unknown)

  meaning-left : (n : ℕ) → (get_or (map left rs) n no_name).1 ≡ get_or meant_by n Spec.Keyword.unknown
  unfolding no_name no_row
  meaning-left n = ap (λ (k : Named). k.1) (get_or-map left rs n no_row) ∙ sym (get_or-map (λ r. r.2) rs n no_row)

  meaning-right : (n : ℕ) → (get_or (map right rs) n no_name).1 ≡ get_or meant_by n Spec.Keyword.unknown
  unfolding no_name no_row
  meaning-right n = ap (λ (k : Named). k.1) (get_or-map right rs n no_row) ∙ sym (get_or-map (λ r. r.2) rs n no_row)

  same-any : any spells (map left rs) ≡ any (bytes_equal w) lefts
  same-any = any-map spells left rs ∙ sym (any-map (bytes_equal w) (λ r. bytes r.0) rs)

  meaning-by : Spec.Keyword
  meaning-by = (get_or all_named (ahead spells all_named) no_name).1

  meant-first : any (bytes_equal w) lefts ≡ true → meaning-by ≡ get_or meant_by (ahead (bytes_equal w) lefts) Spec.Keyword.unknown
  unfolding meaning-by
  meant-first h =
      let t : any spells (map left rs) ≡ true = same-any ∙ h in
      let here : ahead spells all_named ≡ ahead spells (map left rs) = ahead-first spells (map right rs) (map left rs) t in
      let low = (found spells no_name (map left rs) (subst T (sym t) tt)).1 in
      let n = ahead-map spells left rs ∙ sym (ahead-map (bytes_equal w) (λ r. bytes r.0) rs) in
      ap (λ (m : ℕ). (get_or all_named m no_name).1) here ∙ ap (λ (k : Named). k.1) (get_or-append (map left rs) (map right rs) no_name (ahead spells (map left rs)) low)
      ∙ meaning-left (ahead spells (map left rs)) ∙ ap (λ (m : ℕ). get_or meant_by m Spec.Keyword.unknown) n

  meant-later : any (bytes_equal w) lefts ≡ false → meaning-by ≡ get_or meant_by (ahead (bytes_equal w) rights) Spec.Keyword.unknown
  unfolding meaning-by
  meant-later h =
      let there = ahead-later spells (map right rs) (map left rs) (same-any ∙ h) in
      let n = ahead-map spells right rs ∙ sym (ahead-map (bytes_equal w) (λ r. bytes r.1) rs) in
      ap (λ (m : ℕ). (get_or all_named m no_name).1) there ∙ ap (λ (k : Named). k.1) (get_or-append-add (map left rs) (map right rs) (ahead spells (map right rs)) no_name)
      ∙ meaning-right (ahead spells (map right rs)) ∙ ap (λ (m : ℕ). get_or meant_by m Spec.Keyword.unknown) n

-- the keyword of a word: that of its place in the Polish edition, or else of its place in the English one
module _ (w : List ℕ) where
  keyword-first : any (bytes_equal w) (words_of false) ≡ true → keyword_by w ≡ get_or meanings (place_in false w) Spec.Keyword.unknown
  unfolding keyword_by place_in meaning-by no_name
  keyword-first h = meant-first w editions h

  keyword-later : any (bytes_equal w) (words_of false) ≡ false → keyword_by w ≡ get_or meanings (place_in true w) Spec.Keyword.unknown
  unfolding keyword_by place_in meaning-by no_name
  keyword-later h = meant-later w editions h

-- the words of both editions
both : ℕ → Bool
both j = beq (any (bytes_equal (word_at false j)) (words_of true)) (shared j)

shared-words : (j : ℕ) → j < 46 → any (bytes_equal (word_at false j)) (words_of true) ≡ shared j
unfolding both
shared-words j h = beq-eq (any (bytes_equal (word_at false j)) (words_of true)) (shared j) (below both 46 tt j h)

-- what is known of a word
module _ (w : List ℕ) (j : ℕ) (p : j ≡ place_in false w) where
  pub known-polish : j < 46 → {k : Keyword} → Some k ≡ keyword_at j → {e : Option Edition} → e ≡ edition_at j → Some (record { keyword = k; edition = e }) ≡ known w
  unfolding own keyword_at
  known-polish h {k} k-is {e} e-is = go (case false w)
    where
      here : (b : Bool) → Some (record { keyword = k; edition = cond b None (Some Edition.Polish) }) ≡ known_by (Some k) (edition_of (not b) (b && false))
      here true = refl
      here false = refl

      go : Case false w → Some (record { keyword = k; edition = e }) ≡ known w
      go (Case.one i l q) =
          let s : i ≡ j = sym (its-place false w i l q) ∙ sym p in
          let t : any (bytes_equal w) (words_of false) ≡ true = has-place false w ∙ lt-ltb (place_in false w) 46 (omega arith) in
          let u : any (bytes_equal w) (words_of true) ≡ shared j = ap (λ (v : List ℕ). any (bytes_equal v) (words_of true)) q ∙ shared-words i l ∙ ap shared s in
          let v : Some k ≡ told (keyword_by w) = k-is ∙ ap keyword_at p ∙ sym (ap told (keyword-first w t)) in
          ap (λ e. Some (record { keyword = k; edition = e })) e-is ∙ here (shared j) ∙ rw (t, u, ← v) refl
      go (Case.none n) = absurd (omega (arith, no_place false w n))

  module _ (h : 46 ≤ j) {i : ℕ} (i-is : i ≡ place_in true w) where
    none_first : any (bytes_equal w) (words_of false) ≡ false
    none_first = has-place false w ∙ le-ltb (place_in false w) 46 (omega arith)

    there : keyword_at i ≡ told (keyword_by w)
    unfolding keyword_at
    there = ap keyword_at i-is ∙ sym (ap told (keyword-later w none_first))

    pub known-english : i < 46 → {k : Keyword} → Some k ≡ keyword_at i → Some (record { keyword = k; edition = Some Edition.English }) ≡ known w
    unfolding own
    known-english l {k} k-is =
        let u : any (bytes_equal w) (words_of true) ≡ true = has-place true w ∙ ap (λ (n : ℕ). ltb n 46) (sym i-is) ∙ lt-ltb i 46 l in
        let v : Some k ≡ told (keyword_by w) = k-is ∙ there in
        rw (none_first, u, ← v) refl

    pub known_none : 46 ≤ i → None ≡ known w
    known_none l = let v : None ≡ told (keyword_by w) = keyword-beyond i l ∙ there in rw (← v) refl

-- a word's keyword is not none, which is for no word
meaning-some : (j : ℕ) → same_keyword Spec.Keyword.none (get_or meanings j Spec.Keyword.unknown) ≡ false
meaning-some j = go (dec_lt j 46)
  where
    go : Dec (j < 46) → same_keyword Spec.Keyword.none (get_or meanings j Spec.Keyword.unknown) ≡ false
    go (yes l) = beq-eq (same_keyword Spec.Keyword.none (get_or meanings j Spec.Keyword.unknown)) false (below (λ i. beq (same_keyword Spec.Keyword.none (get_or meanings i Spec.Keyword.unknown)) false) 46 tt j l)
    go (no l) =
        let h : 46 ≤ j = omega arith in
        ap (same_keyword Spec.Keyword.none) (get_or-eq_default meanings Spec.Keyword.unknown h)

pub never-none : (w : List ℕ) → same_keyword Spec.Keyword.none (keyword_by w) ≡ false
never-none w = go (any (bytes_equal w) (words_of false)) refl
  where
    go : (t : Bool) → any (bytes_equal w) (words_of false) ≡ t → same_keyword Spec.Keyword.none (keyword_by w) ≡ false
    go true h = ap (same_keyword Spec.Keyword.none) (keyword-first w h) ∙ meaning-some (place_in false w)
    go false h = ap (same_keyword Spec.Keyword.none) (keyword-later w h) ∙ meaning-some (place_in true w)

-- each place is a keyword's
listed : (j : ℕ) → j < 46 → T (is_some (keyword_at j))
unfolding keyword_at
listed j h = below (λ j. is_some (keyword_at j)) 46 tt j h

-- a word is one edition's own as is known of it
module _ (w : List ℕ) where
  of-edition : (e : Bool) → (any (bytes_equal w) (words_of e) ≡ true → told (keyword_by w) ≡ keyword_at (place_in e w)) → told (keyword_by w) ≡ None
      → any (bytes_equal w) (words_of e) ≡ false
  of-edition e f n = go (any (bytes_equal w) (words_of e)) refl
    where
      go : (t : Bool) → any (bytes_equal w) (words_of e) ≡ t → any (bytes_equal w) (words_of e) ≡ false
      go true h =
          let l : place_in e w < 46 = ltb→lt (place_in e w) 46 (subst T (sym (sym (has-place e w) ∙ h)) tt) in
          absurd (subst (λ (k : Option Keyword). T (is_some k)) (sym (f h) ∙ n) (listed (place_in e w) l))
      go false h = h

  told-first : any (bytes_equal w) (words_of false) ≡ true → told (keyword_by w) ≡ keyword_at (place_in false w)
  unfolding keyword_at
  told-first h = ap told (keyword-first w h)

  told-later : any (bytes_equal w) (words_of false) ≡ false → told (keyword_by w) ≡ keyword_at (place_in true w)
  unfolding keyword_at
  told-later h = ap told (keyword-later w h)

  own_none : (e : Bool) → told (keyword_by w) ≡ None → false ≡ own e w
  unfolding own
  own_none e n =
      let p = of-edition false told-first n in
      let q = of-edition true (λ h. told-later p) n in
      let both-none : (e : Bool) → false ≡ (any (bytes_equal w) (words_of e) && not (any (bytes_equal w) (words_of (not e)))) =
      λ e. elim e as (λ e. false ≡ (any (bytes_equal w) (words_of e) && not (any (bytes_equal w) (words_of (not e))))) [ true ↦ rw q refl | false ↦ rw p refl ] in
      both-none e

  own-some : (e a b : Bool) → own_by e (edition_of (a && not b) (b && not a)) ≡ (cond e b a && not (cond e a b))
  own-some true true true = refl
  own-some true true false = refl
  own-some true false true = refl
  own-some true false false = refl
  own-some false true true = refl
  own-some false true false = refl
  own-some false false true = refl
  own-some false false false = refl

  pub own-known : (e : Bool) → is_own e (known w) ≡ own e w
  unfolding own
  own-known e = go e (told (keyword_by w)) refl
    where
      go : (e : Bool) (k : Option Keyword) → told (keyword_by w) ≡ k → is_own e (known_by k (edition_of (own false w) (own true w))) ≡ own e w
      go e None n = own_none e n
      go true (Some k) n = own-some true (any (bytes_equal w) (words_of false)) (any (bytes_equal w) (words_of true))
      go false (Some k) n = own-some false (any (bytes_equal w) (words_of false)) (any (bytes_equal w) (words_of true))

-- a word in the other edition
module _ (w : List ℕ) {j : ℕ} (p : j ≡ place_in false w) where
  pub other-english : j < 46 → word_at true j ≡ other_word w
  unfolding other_word
  other-english h = rw (← p, lt-ltb j 46 h) refl

  module _ (l : 46 ≤ j) {k : ℕ} (q : k ≡ place_in true w) where
    pub other-polish : k < 46 → word_at false k ≡ other_word w
    unfolding other_word
    other-polish h = rw (← p, le-ltb j 46 l, ← q, lt-ltb k 46 h) refl

    pub other_none : 46 ≤ k → w ≡ other_word w
    unfolding other_word
    other_none h = rw (← p, le-ltb j 46 l, ← q, le-ltb k 46 h) refl

-- whether a word is one of either edition
module _ (w : List ℕ) {j : ℕ} (p : j ≡ place_in false w) where
  pub reserved-polish : j < 46 → true ≡ reserved w
  unfolding reserved
  reserved-polish h = let t : any (bytes_equal w) (words_of false) ≡ true = has-place false w ∙ lt-ltb (place_in false w) 46 (omega arith) in rw t refl

  pub reserved-english : 46 ≤ j → {k : ℕ} → k ≡ place_in true w → ltb k 46 ≡ reserved w
  unfolding reserved
  reserved-english h q =
      let t : any (bytes_equal w) (words_of false) ≡ false = has-place false w ∙ le-ltb (place_in false w) 46 (omega arith) in
      rw t (ap (λ (n : ℕ). ltb n 46) q ∙ sym (has-place true w))

-- "SEKCJA or its English word chooses": of the two words the English edition's own one is SECTION
chosen : Bool → ℕ → Bool
chosen e j = not (same_keyword Spec.Keyword.SEKCJA (get_or meanings j Spec.Keyword.unknown)) || beq (bytes_equal (word_at e j) (bytes "SECTION")) (own true (word_at e j))

all-chosen : (e : Bool) (j : ℕ) → j < 46 → T (chosen e j)
unfolding chosen own
all-chosen true = below (chosen true) 46 tt
all-chosen false = below (chosen false) 46 tt

module _ (w : List ℕ) where
  chosen-here : (e : Bool) (j : ℕ) → j < 46 → w ≡ word_at e j → T (same_keyword Spec.Keyword.SEKCJA (get_or meanings j Spec.Keyword.unknown)) → bytes_equal w (bytes "SECTION") ≡ own true w
  unfolding chosen
  chosen-here e j h q k =
      let v = word_at e j in
      let a = bytes_equal v (bytes "SECTION") in
      rw q (beq-eq a (own true v) (go (same_keyword Spec.Keyword.SEKCJA (get_or meanings j Spec.Keyword.unknown)) (beq a (own true v)) k (all-chosen e j h)))
    where
      go : (b c : Bool) → T b → T (not b || c) → T c
      go true c t u = u
      go false c t u = absurd t

  pub chooses-section : T (same_keyword Spec.Keyword.SEKCJA (keyword_by w)) → bytes_equal w (bytes "SECTION") ≡ own true w
  chooses-section k = first (case false w)
    where
      by_place : {n : Spec.Keyword} → keyword_by w ≡ n → T (same_keyword Spec.Keyword.SEKCJA n)
      by_place e = subst (λ n. T (same_keyword Spec.Keyword.SEKCJA n)) e k

      later : any (bytes_equal w) (words_of false) ≡ false → Case true w → bytes_equal w (bytes "SECTION") ≡ own true w
      later n (Case.one j h q) = chosen-here true j h q (by_place (keyword-later w n ∙ ap (λ (i : ℕ). get_or meanings i Spec.Keyword.unknown) (its-place true w j h q)))
      later n (Case.none m) = absurd (by_place (keyword-later w n ∙ ap (λ (i : ℕ). get_or meanings i Spec.Keyword.unknown) (no_place true w m)))

      first : Case false w → bytes_equal w (bytes "SECTION") ≡ own true w
      first (Case.one j h q) =
          let t = has-place false w ∙ lt-ltb (place_in false w) 46 (omega (arith, its-place false w j h q, h)) in
          chosen-here false j h q (by_place (keyword-first w t ∙ ap (λ (i : ℕ). get_or meanings i Spec.Keyword.unknown) (its-place false w j h q)))
      first (Case.none n) = later n (case true w)

-- ---- by what was found

-- the words of both editions are those of two keywords
shared_by : Option Keyword → Bool
shared_by None = false
shared_by (Some k) = is_shared k

tells-shared : ℕ → Bool
tells-shared j = beq (shared_by (keyword_at j)) (shared j)

keyword-shared : (j : ℕ) → j < 46 → {k : Keyword} → Some k ≡ keyword_at j → is_shared k ≡ shared j
unfolding tells-shared shared_by keyword_at
keyword-shared j h e = ap shared_by e ∙ beq-eq (shared_by (keyword_at j)) (shared j) (below tells-shared 46 tt j h)

-- each of them is a Polish one
polish-too : ℕ → Bool
polish-too j = not (shared j) || any (bytes_equal (word_at true j)) (words_of false)

all-polish-too : (j : ℕ) → j < 46 → T (polish-too j)
unfolding polish-too
all-polish-too = below polish-too 46 tt

module _ (w : List ℕ) where
  not_shared : (j : ℕ) → place_in false w ≡ 46 → j ≡ place_in true w → j < 46 → shared j ≡ false
  unfolding polish-too
  not_shared j n p l = go (case true w)
    where
      open-shared : (a b : Bool) → T (not a || b) → b ≡ false → a ≡ false
      open-shared true b t e = absurd (subst T e t)
      open-shared false b t e = refl

      go : Case true w → shared j ≡ false
      go (Case.one i h q) =
          let s : i ≡ j = sym (its-place true w i h q) ∙ sym p in
          let none : any (bytes_equal w) (words_of false) ≡ false = has-place false w ∙ le-ltb (place_in false w) 46 (omega (arith, n)) in
          let e : any (bytes_equal (word_at true j)) (words_of false) ≡ false = ap (λ (v : List ℕ). any (bytes_equal v) (words_of false)) (sym (q ∙ ap (word_at true) s)) ∙ none in
          open-shared (shared j) (any (bytes_equal (word_at true j)) (words_of false)) (all-polish-too j l) e
      go (Case.none m) = absurd (omega (arith, no_place true w m, p, l))

  pub known-found : (e : Edition) (j : ℕ) → FoundAt w e j → {k : Keyword} → Some k ≡ keyword_at j
      → {o : Option Edition} → o ≡ then_some (not (is_shared k)) e → Some (record { keyword = k; edition = o }) ≡ known w
  known-found Edition.Polish j f {k} k-is o-is = known-polish w j f.0 f.1 k-is (o-is ∙ ap (λ b. then_some (not b) Edition.Polish) (keyword-shared j f.1 k-is) ∙ by-place (shared j))
    where
      by-place : (b : Bool) → then_some (not b) Edition.Polish ≡ cond b None (Some Edition.Polish)
      by-place true = refl
      by-place false = refl
  known-found Edition.English j f {k} k-is {o} o-is =
      let own-one : is_shared k ≡ false = keyword-shared j f.2 k-is ∙ not_shared j f.0 f.1 f.2 in
      let is-own-one : o ≡ Some Edition.English = o-is ∙ ap (λ b. then_some (not b) Edition.English) own-one in
      ap (λ x. Some (record { keyword = k; edition = x })) is-own-one ∙ known-english w 46 (sym f.0) (omega arith) f.1 f.2 k-is

  pub known-unfound : (r : Option (Edition × ℕ)) → Found w r → r ≡ None → None ≡ known w
  known-unfound None f e = known_none w 46 (sym f.0) (omega arith) (sym f.1) (omega arith)
  known-unfound (Some p) f e = absurd (false≢true (sym (ap is_some e)))

  pub reserved-found : (r : Option (Edition × ℕ)) → Found w r → is_some r ≡ reserved w
  reserved-found None f = reserved-english w (sym f.0) (omega arith) (sym f.1)
  reserved-found (Some (Edition.Polish, j)) f = reserved-polish w f.0 f.1
  reserved-found (Some (Edition.English, j)) f = rw (lt-ltb j 46 f.2) at (reserved-english w (sym f.0) (omega arith) f.1)

  pub other-found : (e : Edition) (j : ℕ) → FoundAt w e j → {b : Bool} → b ≡ not (is_english e) → word_at b j ≡ other_word w
  other-found Edition.Polish j f b-is = ap (λ b. word_at b j) b-is ∙ other-english w f.0 f.1
  other-found Edition.English j f b-is = ap (λ b. word_at b j) b-is ∙ other-polish w (sym f.0) (omega arith) f.1 f.2

  pub other-unfound : (place_in false w ≡ 46) × (place_in true w ≡ 46) → w ≡ other_word w
  other-unfound f = other_none w (sym f.0) (omega arith) (sym f.1) (omega arith)
