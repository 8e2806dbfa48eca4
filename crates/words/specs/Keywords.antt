-- What the functions on keywords answer.
use Rattle.std.specs.Option.{MatchOption}
use Rattle.std.specs.Prelude.{◌≡◌, Option, None, Some, Bool, true, false, cond, not, ◌||◌, List, [], ◌∷◌, map, ℕ, ◌+◌, ◌*◌, ◌-◌, ◌%◌, ◌<◌, ◌≤◌, eqb, ltb, length, get_or, take, drop}
use Rattle.language.specs.Instructions.{number_of}
use Rattle.language.specs.Operators.{op_by}
use Rattle.syntax.specs.Below.Lists.{ahead, joined, bytes_equal}
use Rattle.syntax.specs.Below.Quoted.{bytes}
use Rattle.syntax.specs.Statements as Spec
use Rattle.syntax.specs.Statements.{editions, keywords, words_of, own}
use Rattle.words.specs.Operators.{operator_in}
use Rattle.words.specs.declared.Edition.{Edition}
use Rattle.words.specs.declared.Keyword.{Keyword}
use Rattle.words.specs.declared.Known.{Known}

-- the keyword that a word is, in either edition
unfoldable pub keyword_by : List ℕ → Spec.Keyword
keyword_by w = (get_or keywords (ahead (λ k. bytes_equal w (bytes k.0)) keywords) ("", Spec.Keyword.unknown)).1

-- each keyword as the code tells it; where there is none, or a word that is no keyword, nothing
abbrev pub told : Spec.Keyword → Option Keyword
told Spec.Keyword.none = None
told Spec.Keyword.unknown = None
told Spec.Keyword.SEKCJA = Some Keyword.Sekcja
told Spec.Keyword.KONS = Some Keyword.Kons
told Spec.Keyword.KONP = Some Keyword.Konp
told (Spec.Keyword.switch goes_by_name) = Some (Keyword.Switch goes_by_name)
told (Spec.Keyword.instr op) = Some (Keyword.Instr (operator_in op))

-- and back
abbrev pub meant : Option Keyword → Spec.Keyword
meant None = Spec.Keyword.unknown
meant (Some Keyword.Sekcja) = Spec.Keyword.SEKCJA
meant (Some Keyword.Kons) = Spec.Keyword.KONS
meant (Some Keyword.Konp) = Spec.Keyword.KONP
meant (Some (Keyword.Switch goes_by_name)) = Spec.Keyword.switch goes_by_name
meant (Some (Keyword.Instr o)) = Spec.Keyword.instr (op_by o)

abbrev pub is_english : Edition → Bool
is_english Edition.Polish = false
is_english Edition.English = true

-- the edition whose own a word is, by whether it is the Polish one's own, and the English one's
abbrev pub edition_of : Bool → Bool → Option Edition
edition_of true e = Some Edition.Polish
edition_of false true = Some Edition.English
edition_of false false = None

abbrev pub known_by : Option Keyword → Option Edition → Option Known
known_by None e = None
known_by (Some k) e = Some (record { keyword = k; edition = e })

-- the keyword of a word, and the edition whose own it is
abbrev pub known : List ℕ → Option Known
known w = known_by (told (keyword_by w)) (edition_of (own false w) (own true w))

abbrev pub keyword_known : Option Known → Option Keyword
keyword_known None = None
keyword_known (Some k) = Some k.keyword

-- whether the word is the English edition's own, or the Polish one's
abbrev pub own_by : Bool → Option Edition → Bool
own_by english (Some Edition.Polish) = not english
own_by english (Some Edition.English) = english
own_by english None = false

abbrev pub is_own : Bool → Option Known → Bool
is_own english None = false
is_own english (Some k) = own_by english k.edition

-- ---- by places: the words of a pair have the same place in the two editions

abbrev pub word_at : Bool → ℕ → List ℕ
word_at english j = get_or (words_of english) j []

-- the place of a word in an edition; how many pairs there are for none
unfoldable pub place_in : Bool → List ℕ → ℕ
place_in english w = ahead (bytes_equal w) (words_of english)

-- what the code tells of it
abbrev pub Placed : Bool → List ℕ → Option ℕ → Type 0
Placed english w place = MatchOption place (place_in english w ≡ 46) (λ j. (j ≡ place_in english w) × (j < 46))

abbrev pub meanings : List Spec.Keyword
meanings = map (λ r. r.2) editions

unfoldable pub keyword_at : ℕ → Option Keyword
keyword_at j = told (get_or meanings j Spec.Keyword.unknown)

-- the place of KONP and STOP, the words of both editions
abbrev pub shared : ℕ → Bool
shared j = eqb j 2 || eqb j 45

-- a keyword that both editions have the word of: KONP and STOP, the last of the 41 instructions
abbrev pub is_shared : Keyword → Bool
is_shared Keyword.Sekcja = false
is_shared Keyword.Kons = false
is_shared Keyword.Konp = true
is_shared (Keyword.Switch goes_by_name) = false
is_shared (Keyword.Instr o) = eqb (number_of (op_by o)) 41

-- the edition whose own the Polish word of a place is
abbrev pub edition_at : ℕ → Option Edition
edition_at j = cond (shared j) None (Some Edition.Polish)

-- the edition that has a word, the Polish one where both have it, and the word's place there
abbrev pub FoundAt : List ℕ → Edition → ℕ → Type 0
FoundAt w Edition.Polish j = (j ≡ place_in false w) × (j < 46)
FoundAt w Edition.English j = (place_in false w ≡ 46) × (j ≡ place_in true w) × (j < 46)

abbrev pub Found : List ℕ → Option (Edition × ℕ) → Type 0
Found w r = MatchOption r ((place_in false w ≡ 46) × (place_in true w ≡ 46)) (λ p. FoundAt w p.0 p.1)

-- a word in the other edition: that of its place there; a word of no edition is itself
unfoldable pub other_word : List ℕ → List ℕ
other_word w =
    cond (ltb (place_in false w) 46) (word_at true (place_in false w)) (cond (ltb (place_in true w) 46) (word_at false (place_in true w)) w)

-- ---- the code's tables

-- A number from a word's length and letters: with it the code guesses the one place that the word may have in an edition
unfoldable pub slot : Bool → List ℕ → ℕ
slot english w =
    let n = length w in
    let last-but-one = get_or w (n - 2) 0 in
    let last = get_or w (n - 1) 0 in
    cond (ltb n 2 || ltb 8 n) 0
    ((2 * n + 3 * get_or w 0 0 + cond english 4 9 * last-but-one + cond english 19 13 * last) % 128)

-- the words of an edition in a row, where each of them begins and the last ends, and the place of a word by slot
unfoldable pub in_a_row : Bool → List ℕ
in_a_row english = joined (words_of english)

abbrev pub from : ℕ → List (List ℕ) → List ℕ
from n [] = n ∷ []
from n (w ∷ ws) = n ∷ from (n + length w) ws

unfoldable pub beginnings : Bool → List ℕ
beginnings english = from 0 (words_of english)

unfoldable pub guesses : Bool → List ℕ
guesses english =
    bytes
    (cond english "(+((((1(((?(((.()*=(I(((((5(((((O((((@(((((20U(((:(((D(((K(((((H(B(((,(8((<F((P6T(((;((SM((LG((((N(Q(J-(ER94(7((C(((((((3(((A>/("
    "((((((((((F(((EOR(3(HN;(G(((((@M((((((((T(((0((B(((((((*(D(I(4(((+(1(((9L(((8(K(,((-<Q((U((((6)(.J(=(((:(P(((A>(?(2((/(C((7(S5((")

-- the place to which a word's slot leads
unfoldable pub guess : Bool → List ℕ → ℕ
guess english w = get_or (guesses english) (slot english w) 0 - 40

-- the part of a row that begins at the start j, up to the next
abbrev pub of_row : ℕ → List ℕ → List ℕ → List ℕ
of_row j row starts = take (get_or starts (j + 1) 0 - get_or starts j 0) (drop (get_or starts j 0) row)

pub record InRow (j : ℕ) (row starts : List ℕ) : Type 0 where
  pub room : j + 1 < length starts
  pub order : get_or starts j 0 ≤ get_or starts (j + 1) 0
  pub within : get_or starts (j + 1) 0 ≤ length row

pub record Lent (english : Bool) (row starts slots : List ℕ) : Type 0 where
  pub row_is : row ≡ in_a_row english
  pub starts_are : starts ≡ beginnings english
  pub slots_are : slots ≡ guesses english
