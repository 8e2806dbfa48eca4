-- From bytes to items, and from items to statements ("What a program may hold").
use Rattle.std.specs.Prelude.{Bool, true, false, cond, not, ◌&&◌, ◌||◌, List, [], ◌∷◌, ◌++◌, map, ℕ, suc, ◌+◌, eqb, length, get_or, take, drop}
use Rattle.language.specs.Below.Characters.{known, is_capital, is_digit}
use Rattle.language.specs.Below.Lists.{any, ahead, head_or, if_any, keep, among}
use Rattle.language.specs.Below.Quoted.{bytes}

-- What a byte begins outside texts and comments: "only A to Z, 0 to 9, space , : ; ' + - and new line". An item has the sort of its first byte
pub data Sort : Type 0 where
  separator word colon end text wrong : Sort

unfoldable pub sort_of : ℕ → Sort
sort_of b =
    cond (among b (bytes " ,")) separator
    (cond (is_capital b || is_digit b || among b (bytes "+-")) word
    (cond (eqb b 58) colon
    (cond (among b (bytes ";\n")) end
    (cond (eqb b 39) text
    wrong))))

abbrev pub sort_number : Sort → ℕ
sort_number separator = 0
sort_number word = 1
sort_number colon = 2
sort_number end = 3
sort_number text = 4
sort_number wrong = 5

abbrev pub same_sort : Sort → Sort → Bool
same_sort x y = eqb (sort_number x) (sort_number y)

-- An item: the place where it begins, counted from 0; a word's bytes or a text's characters; of a text whether it is closed on its line and of
-- allowed characters and pairs; of a word the place of the colon that follows it, if one does
pub record Item : Type 0 where
  pub at : ℕ
  pub sort : Sort
  pub chars : List ℕ
  pub good : Bool
  pub colon : List ℕ

abbrev pub is : Sort → Item → Bool
is k i = same_sort k i.sort

abbrev pub places : List Item → List ℕ
places js = map (λ i. i.at) js

abbrev pub a_word : ℕ → List ℕ → Item
a_word at w = record { at = at; sort = word; chars = w; good = true; colon = [] }

abbrev pub a_text : ℕ → List ℕ → Bool → Item
a_text at cs good = record { at = at; sort = text; chars = cs; good = good; colon = [] }

-- a colon or an end; or a byte or an open comment that may not stand there
abbrev pub a_mark : Sort → ℕ → Item
a_mark k at = record { at = at; sort = k; chars = []; good = true; colon = [] }

-- The starred pairs of 4.2.4 and Appendix A, "with `*,` for the apostrophe and without `*F`": the byte after the star, and the character
abbrev pub pairs : List (ℕ × ℕ)
pairs =
    (76, 10) ∷ (44, 39) ∷ (42, 42) ∷ (85, 91) ∷ (86, 93) ∷ (87, 60) ∷ (88, 62) ∷ (89, 63) ∷ (90, 27) ∷ (77, 14) ∷ (68, 15) ∷ (69, 12)
    ∷ (71, 13) ∷ (83, 127) ∷ []

abbrev pub is_pair : ℕ → Bool
is_pair b = any (λ p. eqb b p.0) pairs

abbrev pub pair_of : ℕ → ℕ
pair_of b = (get_or pairs (ahead (λ p. eqb b p.0) pairs) (0, 0)).1

-- A byte of a text. `star`: the byte before is a star that takes this one. It ends the text: an apostrophe that no star takes, or a new line,
-- which leaves the text open
unfoldable pub ends_text : Bool → ℕ → Bool
ends_text star b = eqb b 10 || (eqb b 39 && not star)

-- it is a star that takes the next ("a star takes the byte after it")
unfoldable pub takes_next : Bool → ℕ → Bool
takes_next star b = eqb b 42 && not star

-- the character that it gives or completes
unfoldable pub char_of : Bool → ℕ → List ℕ
char_of star b = cond star (pair_of b ∷ []) (cond (eqb b 42) [] (b ∷ []))

-- "All of the 61 but LF, `'` and `*` may also stand themselves", and the small letters
unfoldable pub allows : Bool → ℕ → Bool
allows star b = cond star (is_pair b) (eqb b 42 || (known b && not (among b (bytes "\n'"))))

-- Where the reader stands before a byte: outside; in a word, with its bytes so far; in a comment, at the star that opens it, inside, or at the
-- slash that closes it; in a text, with `star`, the characters so far and whether all were allowed. The numbers are the places of their beginnings
pub data Stage : Type 0 where
  first-star inside last-slash : Stage

pub data Mode : Type 0 where
  outside : Mode
  in_word : ℕ → List ℕ → Mode
  in_comment : ℕ → Stage → Mode
  in_text : ℕ → Bool → List ℕ → Bool → Mode

-- `/*` and `*/`: this byte and the next
abbrev pub opens : ℕ → ℕ → Bool
opens b next = eqb b 47 && eqb next 42

abbrev pub closes : ℕ → ℕ → Bool
closes b next = eqb b 42 && eqb next 47

-- A byte at place n that is met outside: where the reader stands then
unfoldable pub begins : Sort → ℕ → ℕ → ℕ → Mode
begins separator n b next = outside
begins word n b next = in_word n (b ∷ [])
begins colon n b next = outside
begins end n b next = outside
begins text n b next = in_text n false [] true
begins wrong n b next = cond (opens b next) (in_comment n first-star) outside

-- and the item that it is by itself
unfoldable pub itself : Sort → ℕ → ℕ → ℕ → List Item
itself separator n b next = []
itself word n b next = []
itself colon n b next = a_mark colon n ∷ []
itself end n b next = a_mark end n ∷ []
itself text n b next = []
itself wrong n b next = cond (opens b next) [] (a_mark wrong n ∷ [])

-- The byte b at place n, with the byte after it: where the reader stands then
unfoldable pub mode_after : Mode → ℕ → ℕ → ℕ → Mode
mode_after outside n b next = begins (sort_of b) n b next
mode_after (in_word at w) n b next = cond (same_sort word (sort_of b)) (in_word at (w ++ (b ∷ []))) (begins (sort_of b) n b next)
mode_after (in_comment at first-star) n b next = in_comment at inside
mode_after (in_comment at inside) n b next = in_comment at (cond (closes b next) last-slash inside)
mode_after (in_comment at last-slash) n b next = outside
mode_after (in_text at star cs good) n b next = cond (ends_text star b) outside (in_text at (takes_next star b) (cs ++ char_of star b) (good && allows star b))

-- and the items that end before it or with it. A new line that leaves a text open ends the statement too
unfoldable pub items_at : Mode → ℕ → ℕ → ℕ → List Item
items_at outside n b next = itself (sort_of b) n b next
items_at (in_word at w) n b next = cond (same_sort word (sort_of b)) [] (a_word at w ∷ itself (sort_of b) n b next)
items_at (in_comment at k) n b next = []
items_at (in_text at star cs good) n b next =
    cond (ends_text star b) (a_text at cs (good && eqb b 39) ∷ cond (eqb b 39) [] (a_mark end n ∷ [])) []

-- what the end of the text leaves
unfoldable pub left_over : Mode → List Item
left_over outside = []
left_over (in_word at w) = a_word at w ∷ []
left_over (in_comment at k) = a_mark wrong at ∷ []
left_over (in_text at star cs good) = a_text at cs false ∷ []

unfoldable pub read : Mode → ℕ → List ℕ → List Item
read m n [] = left_over m
read m n (b ∷ s) = items_at m n b (get_or s 0 0) ++ read (mode_after m n b (get_or s 0 0)) (n + 1) s

-- a word and the colon after it are one: `NAME:`
unfoldable pub attach : Item → List Item → List Item
attach i js =
    cond (is word i && if_any false (is colon) js)
    (record { at = i.at; sort = word; chars = i.chars; good = i.good; colon = places (take 1 js) } ∷ drop 1 js)
    (i ∷ js)

unfoldable pub named : List Item → List Item
named [] = []
named (i ∷ js) = attach i (named js)

-- Statements: the items between two ends. The end of the text ends one too
unfoldable pub parted : Item → List (List Item) → List (List Item)
parted i xs = cond (is end i) ([] ∷ xs) ((i ∷ head_or [] xs) ∷ drop 1 xs)

unfoldable pub statements : List Item → List (List Item)
statements [] = [] ∷ []
statements (i ∷ js) = parted i (statements js)

-- the statements of the unread rest r of a text, which begins at place n
abbrev pub statements_from : ℕ → List ℕ → List (List Item)
statements_from n r = statements (named (read outside n r))

-- the line of a place, from 1: one more than the new lines before it
unfoldable pub line_of : List ℕ → ℕ → ℕ
line_of s p = suc (length (keep (eqb 10) (take p s)))

-- the places of bytes that follow one another, from a place on
unfoldable pub up_from : ℕ → List ℕ → List ℕ
up_from place [] = []
up_from place (b ∷ w) = place ∷ up_from (suc place) w

-- the lines of all bytes of a text
unfoldable pub lines_of : List ℕ → List ℕ
lines_of s = map (line_of s) (up_from 0 s)

-- the line of a place, of a text whose bytes have the lines ls; an empty text has the line 1
abbrev pub line_at : List ℕ → ℕ → ℕ
line_at ls p = get_or ls p 1
