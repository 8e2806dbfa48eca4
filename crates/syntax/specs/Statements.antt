-- A statement's parts: labels, operator, what follows it; and the list of a switch.
use Rattle.std.specs.Prelude.{Bool, true, false, cond, not, ◌&&◌, ◌||◌, List, [], ◌∷◌, ◌++◌, map, ℕ, eqb, get_or, take, drop}
use Prim.Native.String.{String}
use Rattle.language.specs.Instructions.{operation, operators}
use Rattle.language.specs.Program.{identifier, Op, Entry}
use Rattle.language.specs.Below.Lists.{ahead, any, filled, if_any, keep, bytes_equal}
use Rattle.language.specs.Below.Quoted.{bytes}
use Rattle.syntax.specs.Items.{Item, is, places}
use Rattle.syntax.specs.Items.Sort.{word, colon, text}

-- What an operator is. A switch by name is NAZWA, otherwise INDEKS; labels alone have none
pub data Keyword : Type 0 where
  none unknown SEKCJA KONS KONP : Keyword
  switch : Bool → Keyword
  instr : Op → Keyword

-- The 46 pairs of words: a keyword's word in the Polish edition, its word in the English one, and what both are (clauses and Appendix E)
abbrev pub editions : List (String × String × Keyword)
editions =
    ("SEKCJA", "SECTION", SEKCJA) ∷ ("KONS", "ENDS", KONS) ∷ ("KONP", "KONP", KONP) ∷ ("INDEKS", "INDEX", switch false) ∷ ("NAZWA", "NAME", switch true)
    ∷ map (λ o. ((operation o).name, (operation o).english, instr o)) operators

-- "Load takes either edition": the words of both, the Polish ones first
abbrev pub keywords : List (String × Keyword)
keywords = map (λ r. (r.0, r.2)) editions ++ map (λ r. (r.1, r.2)) editions

-- the words of the English edition, or of the Polish one
abbrev pub words_of : Bool → List (List ℕ)
words_of english = map (λ r. bytes (cond english r.1 r.0)) editions

-- "the other's own operators": a word of an edition that the other has not
unfoldable pub own : Bool → List ℕ → Bool
own english w = any (bytes_equal w) (words_of english) && not (any (bytes_equal w) (words_of (not english)))

-- "spelled as an instruction, a declaration, SEKCJA, KONS or KONP of either edition"
unfoldable pub reserved : List ℕ → Bool
reserved w = any (bytes_equal w) (words_of false) || any (bytes_equal w) (words_of true)

abbrev pub keyword_number : Keyword → ℕ
keyword_number none = 0
keyword_number unknown = 1
keyword_number SEKCJA = 2
keyword_number KONS = 3
keyword_number KONP = 4
keyword_number (switch goes_by_name) = 5
keyword_number (instr op) = 6

abbrev pub same_keyword : Keyword → Keyword → Bool
same_keyword k l = eqb (keyword_number k) (keyword_number l)

-- an answer for instructions, one for switches, and one for the rest
unfoldable pub by_keyword : {X : Type 0} → (Op → X) → (Bool → X) → X → Keyword → X
by_keyword f g z none = z
by_keyword f g z unknown = z
by_keyword f g z SEKCJA = z
by_keyword f g z KONS = z
by_keyword f g z KONP = z
by_keyword f g z (switch goes_by_name) = g goes_by_name
by_keyword f g z (instr op) = f op

-- the keyword that an item is
unfoldable pub keyword_of : Item → Keyword
keyword_of i = cond (is word i) (get_or keywords (ahead (λ k. bytes_equal i.chars (bytes k.0)) keywords) ("", unknown)).1 unknown

-- "A statement may carry labels (`NAME:`)": the operator is the first item that is no `NAME:` and no `:`. What stands in front of it, and from it on
abbrev pub is_operator : Item → Bool
is_operator i = not (is colon i || filled i.colon)

unfoldable pub front : List Item → List Item
front [] = []
front (i ∷ js) = cond (is_operator i) [] (i ∷ front js)

unfoldable pub behind : List Item → List Item
behind [] = []
behind (i ∷ js) = cond (is_operator i) (i ∷ js) (behind js)

abbrev pub labels_in : List Item → List Item
labels_in x = keep (is word) (front x)

-- the operator, as a row of one or none; its place; what it is; and the items after it
abbrev pub operator : List Item → List Item
operator x = take 1 (behind x)

abbrev pub operator_at : List Item → ℕ
operator_at x = if_any 0 (λ i. i.at) (behind x)

unfoldable pub keyword_in : List Item → Keyword
keyword_in x = if_any none keyword_of (behind x)

-- "SEKCJA or its English word chooses (1.4)": the operator is the English one
unfoldable pub chooses_english : List Item → Bool
chooses_english x = if_any false (λ i. bytes_equal i.chars (bytes "SECTION")) (behind x)

abbrev pub rest : List Item → List Item
rest x = drop 1 (behind x)

abbrev pub is_name : Item → Bool
is_name i = is word i && identifier i.chars

-- `KEYWORD name`: what is at fault after the keyword at a place, where `right` tells the name
unfoldable pub one_name : (List ℕ → Bool) → ℕ → List Item → List ℕ
one_name right at [] = at ∷ []
one_name right at (i ∷ js) = cond (is word i && right i.chars) i.colon (i.at ∷ []) ++ places js

-- A switch's list: "an entry being a label or `LABEL:'text'`", the latter in NAZWA. A word's colon and a text are right only together:
-- `before` a `LABEL:` stands before the item, `after` a text stands after it
unfoldable pub entry_faults : Bool → Bool → Bool → Item → List ℕ
entry_faults goes_by_name before after i =
    cond (is_name i) (cond (goes_by_name && after) [] i.colon) (cond (is text i && goes_by_name && before) [] (i.at ∷ []))

unfoldable pub list_faults : Bool → Bool → List Item → List ℕ
list_faults goes_by_name before [] = []
list_faults goes_by_name before (i ∷ js) = entry_faults goes_by_name before (if_any false (is text) js) i ++ list_faults goes_by_name (filled i.colon) js

-- its entries, with the labels' places by `place`: each word is a label, and the text right after it is its text
unfoldable pub entries_in : (List ℕ → ℕ) → List Item → List Entry
entries_in place [] = []
entries_in place (i ∷ js) =
    cond (is word i) (record { label = place i.chars; text = if_any [] (λ j. cond (is text j) j.chars []) js } ∷ []) [] ++ entries_in place js
