-- "A converter turns an accepted section into the other edition, keyword by keyword, leaving labels, texts and comments."
use Rattle.std.specs.Prelude.{Bool, true, false, cond, not, ◌&&◌, List, [], ◌∷◌, ◌++◌, ℕ, ◌+◌, ◌-◌, leb, length, take, drop}
use Rattle.language.specs.Limits as limit
use Rattle.lists.specs.Lists.{head_or, keep, each, bytes_equal}
use Rattle.lists.specs.Quoted.{bytes}
use Rattle.syntax.specs.Items.{Item, is, statements_from}
use Rattle.syntax.specs.Items.Sort.{word}
use Rattle.syntax.specs.Load.{Loaded}
use Rattle.syntax.specs.Load.Loaded.{refused, accepted}
use Rattle.syntax.specs.Statements.{editions, operator}
use Rattle.macros.specs.Load.{load_of}
use Rattle.macros.specs.Marks.{has_macros}
use Rattle.calls.specs.Filling.{Filling}
use Rattle.calls.specs.Filling.Filling.{kept, fills}

-- the other word of a pair; none where the word is neither
abbrev pub beside : List ℕ → List ℕ → List ℕ → List (List ℕ)
beside w a b = cond (bytes_equal w a) (b ∷ []) (cond (bytes_equal w b) (a ∷ []) [])

-- a keyword in the other edition: the word beside it in the pairs; any other word is itself
unfoldable pub respell : List ℕ → List ℕ
respell w = head_or w (each (λ r. beside w (bytes r.0) (bytes r.1)) editions)

-- the words that are operators, in the text's order
abbrev pub operators_of : List (List Item) → List Item
operators_of xs = keep (is word) (each operator xs)

-- The bytes r of a text from place n on, with turn of some of its words in their places. All other bytes stay
unfoldable pub splice : (List ℕ → List ℕ) → ℕ → List ℕ → List Item → List ℕ
splice turn n r [] = r
splice turn n r (i ∷ js) =
    take (i.at - n) r ++ turn i.chars ++ splice turn (i.at + length i.chars) (drop (i.at + length i.chars - n) r) js

-- a text with turn of each operator in its place
unfoldable pub with_operators : (List ℕ → List ℕ) → List ℕ → List ℕ
with_operators turn s = splice turn 0 s (operators_of (statements_from 0 s))

-- the text in the other edition
unfoldable pub respelled : List ℕ → List ℕ
respelled s = with_operators respell s

abbrev pub loads : Loaded → Bool
loads (refused number line) = false
loads (accepted p) = true

-- "for the converter, does the text load, has it no macro list, and does the result fit the lent buffer and 32,768 bytes? 67, with the buffer
-- unchanged"
unfoldable pub convert_of : ℕ → List ℕ → Filling
convert_of buffer s =
    cond (loads (load_of s) && not (has_macros s) && leb (length (respelled s)) buffer && leb (length (respelled s)) limit.text) (fills 80 (respelled s))
    (kept 67)
