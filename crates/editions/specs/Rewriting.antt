-- A text with turn of each operator in its place as one pass over its bytes, beside the reader: where it stands, whether the statement's operator is
-- still to come, and what it writes. And the reader with places of another kind, such as lines.
use Rattle.std.specs.Prelude.{Bool, true, false, cond, not, ◌&&◌, List, [], ◌∷◌, ◌++◌, ℕ, ◌+◌, eqb, get_or}
use Rattle.lists.specs.Lists.{if_any, keep}
use Rattle.syntax.specs.Items.{Sort, sort_of, same_sort, Item, is, ends_text, takes_next, Stage, Mode, opens, closes, mode_after, items_at, left_over}
use Rattle.syntax.specs.Items.Sort.{separator, word, colon, end, text, wrong}
use Rattle.syntax.specs.Items.Stage.{first-star, inside, last-slash}
use Rattle.syntax.specs.Items.Mode.{outside, in_word, in_comment, in_text}
use Rattle.syntax.specs.Statements.{is_operator}

-- the reader, where `after n b` is the place after a byte b at place n
unfoldable pub reading : (ℕ → ℕ → ℕ) → Mode → ℕ → List ℕ → List Item
reading after m n [] = left_over m
reading after m n (b ∷ r) = items_at m n b (get_or r 0 0) ++ reading after (mode_after m n b (get_or r 0 0)) (after n b) r

-- places, lines, and no places at all
abbrev pub next_place : ℕ → ℕ → ℕ
next_place n b = n + 1

abbrev pub next_line : ℕ → ℕ → ℕ
next_line n b = cond (eqb 10 b) (n + 1) n

abbrev pub nowhere : ℕ → ℕ → ℕ
nowhere n b = 0

-- a colon is the next item
unfoldable pub colon_next : List ℕ → Bool
colon_next r = if_any false (is colon) (reading nowhere outside 0 r)

-- Where the pass stands: as the reader, but without places and characters
pub data Way : Type 0 where
  out : Way
  spelling : List ℕ → Way
  note : Stage → Way
  quote : Bool → Way

abbrev pub way_of : Mode → Way
way_of outside = out
way_of (in_word at w) = spelling w
way_of (in_comment at k) = note k
way_of (in_text at star cs good) = quote star

abbrev pub is_word : ℕ → Bool
is_word b = same_sort word (sort_of b)

unfoldable pub way_begins : Sort → ℕ → ℕ → Way
way_begins separator b next = out
way_begins word b next = spelling (b ∷ [])
way_begins colon b next = out
way_begins end b next = out
way_begins text b next = quote false
way_begins wrong b next = cond (opens b next) (note first-star) out

unfoldable pub way_after : Way → ℕ → ℕ → Way
way_after out b next = way_begins (sort_of b) b next
way_after (spelling w) b next = cond (is_word b) (spelling (w ++ (b ∷ []))) (way_begins (sort_of b) b next)
way_after (note first-star) b next = note inside
way_after (note inside) b next = note (cond (closes b next) last-slash inside)
way_after (note last-slash) b next = out
way_after (quote star) b next = cond (ends_text star b) out (quote (takes_next star b))

-- the operator is still to come after a byte that is met outside; after a byte
unfoldable pub awaits : Bool → Sort → ℕ → ℕ → Bool
awaits p separator b next = p
awaits p word b next = p
awaits p colon b next = p
awaits p end b next = true
awaits p text b next = p
awaits p wrong b next = cond (opens b next) p false

unfoldable pub awaits_after : Bool → Way → ℕ → List ℕ → Bool
awaits_after p out b r = awaits p (sort_of b) b (get_or r 0 0)
awaits_after p (spelling w) b r = cond (is_word b) p (awaits (p && colon_next (b ∷ r)) (sort_of b) b (get_or r 0 0))
awaits_after p (note k) b r = p
awaits_after p (quote star) b r = cond (ends_text star b) (not (eqb b 39)) p

module _ (turn : List ℕ → List ℕ) where
  -- a word before the rest r, and what is written at a byte
  unfoldable pub word_written : Bool → List ℕ → List ℕ → List ℕ
  word_written p w r = cond (p && not (colon_next r)) (turn w) w

  unfoldable pub written : Bool → Way → ℕ → List ℕ → List ℕ
  written p out b r = cond (is_word b) [] (b ∷ [])
  written p (spelling w) b r = cond (is_word b) [] (word_written p w (b ∷ r) ++ (b ∷ []))
  written p (note k) b r = b ∷ []
  written p (quote star) b r = b ∷ []

  unfoldable pub written_last : Bool → Way → List ℕ
  written_last p out = []
  written_last p (spelling w) = word_written p w []
  written_last p (note k) = []
  written_last p (quote star) = []

  unfoldable pub rewritten : Bool → Way → List ℕ → List ℕ
  rewritten p w [] = written_last p w
  rewritten p w (b ∷ r) = written p w b r ++ rewritten (awaits_after p w b r) (way_after w b (get_or r 0 0)) r

-- the operators of items, where `awaited` tells whether the first statement's is still to come
unfoldable pub operators_in : Bool → List Item → List Item
operators_in awaited [] = []
operators_in awaited (i ∷ js) =
    cond (is end i) (operators_in true js)
    (cond (awaited && is_operator i) (keep (is word) (i ∷ []) ++ operators_in false js) (operators_in awaited js))
