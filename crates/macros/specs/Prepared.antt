-- The questions 64 to 66, and the text as it is loaded: "then the written_out text is loaded as if typed".
use Rattle.std.specs.Prelude.{cond, List, [], ◌∷◌, ◌++◌, map, ℕ, drop}
use Rattle.syntax.specs.Below.Limits as limit
use Rattle.syntax.specs.Below.Lists.{each}
use Rattle.syntax.specs.Below.Characters.{known}
use Rattle.syntax.specs.Items.{sort_of, ends_text, takes_next, char_of, allows, begins, itself, mode_after, items_at, left_over, read, line_of, up_from, lines_of}
use Rattle.syntax.specs.Scan.{word_length, text_length}
use Rattle.syntax.specs.Verdict.{Question, ask, Verdict, lowest, decide, first_no}
use Rattle.syntax.specs.Verdict.Verdict.{yes, refuse}
use Rattle.macros.specs.Marks.{has_macros, ended_by, opened_by, closed_by, passed_by, part_after, parameters_in, word_in, joins, reader_after, marked_from, whole_questions}
use Rattle.macros.specs.Elements.{element_of, is_joined, link, linked, elements, cut_off, stretches}
use Rattle.macros.specs.Pieces.{Given, Call, Piece, given_of, name_faults, call_faults, word_changes, call_stop, call_changes, stretch_changes, pieces_from, called_faults, is_stray, form_faults}
use Rattle.macros.specs.Pieces.Given.{typed, parameter, joined}
use Rattle.macros.specs.Pieces.Piece.{kept, value, called}
use Rattle.macros.specs.Macros.{Macro, macro_of, macros_in, definition_faults, ending_faults, place_faults, macro_list_faults, section, list_change, section_pieces}
use Rattle.macros.specs.Expansion.{filled_in, Fault, places_of, called_by, argument_faults, faults_of, Writing, followed_by, entered, piece_writes, walk, expand, levels}

-- "64 and 65 as typed, in the list too": the faults of calls by a typed name, whether or not they are met
unfoldable pub typed_faults : List Macro → Call → Given → List Fault
typed_faults ms c (typed w) = faults_of c (called_by ms w)
typed_faults ms c (parameter k) = []
typed_faults ms c (joined w k) = []

unfoldable pub piece_faults : List Macro → Piece → List Fault
piece_faults ms (kept place w) = []
piece_faults ms (value k) = []
piece_faults ms (called c) = typed_faults ms c c.name

-- The section written out. "Lines are the given text's, in an expansion the outermost call's": each written byte comes from a place, its own or
-- that of the outermost call's star. What a piece of the section writes, with 16 levels at first; and the places
unfoldable pub writes : List Macro → Piece → Writing
writes ms p = expand ms levels [] (p ∷ [])

unfoldable pub origins : List Macro → Piece → List ℕ
origins ms (kept place w) = up_from place w
origins ms (value k) = []
origins ms (called c) = map (λ b. c.at) (writes ms (called c)).bytes

unfoldable pub deep_places : List Macro → Piece → List ℕ
deep_places ms (kept place w) = []
deep_places ms (value k) = []
deep_places ms (called c) = cond (writes ms (called c)).deep (c.at ∷ []) []

-- all faults of calls: of typed names in bodies and in the section, and of the calls met
unfoldable pub all_faults : List Macro → List Piece → List Fault
all_faults ms ps = each (piece_faults ms) (each (λ m. m.body) ms ++ ps) ++ each (λ p. (writes ms p).faults) ps

-- of a text: its macros, the pieces of its section, the written_out bytes, and the places that they come from
abbrev pub listed : List ℕ → List Macro
listed s = macros_in s (elements s)

abbrev pub section_of : List ℕ → List Piece
section_of s = section_pieces s (elements s)

unfoldable pub bytes_out : List ℕ → List ℕ
bytes_out s = let ms = listed s in each (λ p. (writes ms p).bytes) (section_of s)

unfoldable pub places_out : List ℕ → List ℕ
places_out s = let ms = listed s in each (origins ms) (section_of s)

unfoldable pub macro_questions : List ℕ → List Question
macro_questions s =
    let ts = elements s in
    let faults = all_faults (listed s) (section_of s) in
    -- "are list and calls formed as in chapter 7, each called macro in the list once?"
    ask 64 (macro_list_faults ts ++ form_faults (is_stray []) [] (section ts) ++ places_of 64 faults)
    -- "Are there as many arguments as parameters?"
    ∷ ask 65 (places_of 65 faults)
    -- "Are depth and 32,768 written_out bytes kept?"
    ∷ ask 66 (each (deep_places (listed s)) (section_of s) ++ drop limit.text (places_out s))
    ∷ []

-- A text made ready for loading: refused, with the number and the line; or bytes, and the line of each
pub data Prepared : Type 0 where
  unfit : ℕ → ℕ → Prepared
  ready : List ℕ → List ℕ → Prepared

unfoldable pub written_out : List ℕ → Prepared
written_out s = ready (bytes_out s) (map (line_of s) (places_out s))

unfoldable pub unless_unfit : List ℕ → Verdict → Prepared → Prepared
unless_unfit s yes r = r
unless_unfit s (refuse number at) r = unfit number (line_of s at)

-- "A text with a star or round bracket outside texts and comments meets 14 to 16 as a whole, then 64 to 66"
unfoldable pub prepared : List ℕ → Prepared
prepared s =
    cond (has_macros s) (unless_unfit s (first_no (whole_questions s ++ macro_questions s)) (written_out s)) (ready s (lines_of s))

-- everything that is computed with, to be named on an `unfolding` line
unfoldable pub opened : Unit {0}
unfolding known sort_of ends_text takes_next char_of allows begins itself mode_after items_at left_over read line_of word_length text_length lowest decide first_no has_macros ended_by opened_by closed_by passed_by part_after parameters_in word_in joins reader_after marked_from whole_questions element_of is_joined link linked cut_off stretches given_of name_faults call_faults word_changes call_stop call_changes stretch_changes pieces_from called_faults form_faults macro_of macros_in definition_faults ending_faults place_faults macro_list_faults list_change filled_in argument_faults faults_of followed_by entered piece_writes walk expand typed_faults piece_faults writes up_from lines_of origins deep_places all_faults bytes_out places_out macro_questions written_out unless_unfit prepared
opened = tt
