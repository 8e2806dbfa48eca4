-- What stands at a place of a text, as a loop of code finds it: separators and comments, then one item and the place behind it.
use Rattle.std.specs.Prelude.{Bool, true, false, cond, ◌&&◌, List, [], ◌∷◌, ◌++◌, ℕ, suc, ◌+◌, eqb, length, get_or, take, drop}
use Rattle.syntax.specs.Items.{Sort, sort_of, same_sort, Item, a_word, a_text, a_mark, ends_text, takes_next, char_of, allows, Mode, opens, mode_after, read}
use Rattle.syntax.specs.Items.Sort.{separator, word, colon, end, text, wrong}
use Rattle.syntax.specs.Items.Mode.{outside, in_word, in_comment, in_text}
use Rattle.syntax.specs.Load.{opened}

-- how many bytes in front are a word's
unfoldable pub word_length : List ℕ → ℕ
word_length [] = 0
word_length (b ∷ r) = cond (same_sort word (sort_of b)) (suc (word_length r)) 0

-- how many bytes of a text stand before its end, their characters, and whether all are allowed; `star` as in Items
unfoldable pub text_length : Bool → List ℕ → ℕ
text_length star [] = 0
text_length star (b ∷ r) = cond (ends_text star b) 0 (suc (text_length (takes_next star b) r))

unfoldable pub text_chars : Bool → List ℕ → List ℕ
text_chars star [] = []
text_chars star (b ∷ r) = char_of star b ++ text_chars (takes_next star b) r

unfoldable pub text_allowed : Bool → List ℕ → Bool
text_allowed star [] = true
text_allowed star (b ∷ r) = allows star b && text_allowed (takes_next star b) r

-- what ends a text is its apostrophe, and not a new line or nothing
abbrev pub is_closed : List ℕ → Bool
is_closed r = eqb (get_or r 0 10) 39

-- Outside, a byte that is no separator and opens no comment ends a gap
unfoldable pub passes : Sort → Bool → Bool
passes separator opened = true
passes word opened = false
passes colon opened = false
passes end opened = false
passes text opened = false
passes wrong opened = opened

unfoldable pub in_gap : Mode → ℕ → ℕ → Bool
in_gap outside b next = passes (sort_of b) (opens b next)
in_gap (in_word at w) b next = false
in_gap (in_comment at k) b next = true
in_gap (in_text at star cs good) b next = false

-- the place where separators and comments end, or where a comment begins that stays open
pub data Gap : Type 0 where
  clear unclosed : ℕ → Gap

unfoldable pub gap_end : Mode → ℕ → Gap
gap_end outside n = clear n
gap_end (in_word at w) n = clear n
gap_end (in_comment at k) n = unclosed at
gap_end (in_text at star cs good) n = clear n

unfoldable pub gap_from : Mode → ℕ → List ℕ → Gap
gap_from m n [] = gap_end m n
gap_from m n (b ∷ r) = cond (in_gap m b (get_or r 0 0)) (gap_from (mode_after m n b (get_or r 0 0)) (n + 1) r) (clear n)

-- nothing, or an item and the place behind it
pub data Found : Type 0 where
  no_item : Found
  found : Item → ℕ → Found

-- a text that begins at place n, with r after its apostrophe
unfoldable pub text_found : ℕ → List ℕ → Found
text_found n r =
    let k = text_length false r in
    found (a_text n (text_chars false (take k r)) (text_allowed false (take k r) && is_closed (drop k r)))
    (cond (is_closed (drop k r)) (n + 1 + k + 1) (n + 1 + k))

-- the byte b at place n, with r after it, which ends a gap
unfoldable pub found_here : Sort → ℕ → ℕ → List ℕ → Found
found_here separator n b r = no_item
found_here word n b r = found (a_word n (b ∷ take (word_length r) r)) (n + 1 + word_length r)
found_here colon n b r = found (a_mark colon n) (n + 1)
found_here end n b r = found (a_mark end n) (n + 1)
found_here text n b r = text_found n r
found_here wrong n b r = found (a_mark wrong n) (n + 1)

unfoldable pub found_in : ℕ → List ℕ → Found
found_in n [] = no_item
found_in n (b ∷ r) = found_here (sort_of b) n b r

unfoldable pub found_after : List ℕ → Gap → Found
found_after s (clear e) = found_in e (drop e s)
found_after s (unclosed p) = found (a_mark wrong p) (length s)

-- what stands at place n of the text s
abbrev pub item_at : List ℕ → ℕ → Found
item_at s n = found_after s (gap_from outside n (drop n s))

-- the items from there on
unfoldable pub items_then : List ℕ → Found → List Item
items_then s no_item = []
items_then s (found i e) = i ∷ read outside e (drop e s)
