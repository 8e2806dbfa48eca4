-- The list of macros and the section of a text s, in cells c of two numbers each: what is read there, whatever the cells hold.
use Rattle.std.specs.Prelude.{Bool, cond, List, [], ◌∷◌, map, ℕ, zero, suc, ◌+◌, ◌*◌, ◌/◌, ◌%◌, eqb, get_or, take, drop}
use Rattle.layout.specs.Cells.{tab}
use Rattle.macros.specs.Expansion.{filled_in}
use Rattle.macros.specs.Macros.{Macro}
use Rattle.macros.specs.Pieces.{Given, Call, Piece, Change, pieces_from}
use Rattle.macros.specs.Pieces.Given.{typed, parameter, joined}
use Rattle.macros.specs.Pieces.Piece.{value, called}
use Rattle.macro_code.specs.Places as place

-- the two numbers of a cell, and the cell of two numbers
abbrev pub high : List ℕ → ℕ → ℕ
high c i = get_or c i 0 / place.half

abbrev pub low : List ℕ → ℕ → ℕ
low c i = get_or c i 0 % place.half

abbrev pub paired : ℕ → ℕ → ℕ
paired a b = a * place.half + b

-- the bytes of the text from a place on, so many
unfoldable pub bytes_at : List ℕ → List ℕ → ℕ → List ℕ
bytes_at s c i = take (low c i) (drop (high c i) s)

-- a name or an argument
unfoldable pub given_in : List ℕ → List ℕ → ℕ → Given
given_in s c i =
    let kind = high c (i + place.kind_cell) in
    let k = low c (i + place.kind_cell) in
    cond (eqb kind place.typed_kind) (typed (bytes_at s c i)) (cond (eqb kind place.parameter_kind) (parameter k) (joined (bytes_at s c i) k))

-- a change
abbrev pub is_value : List ℕ → ℕ → Bool
is_value c i = eqb (high c (i + place.kind_cell)) place.value_kind

abbrev pub is_call : List ℕ → ℕ → Bool
is_call c i = eqb (high c (i + place.kind_cell)) place.call_kind

abbrev pub argument_count : List ℕ → ℕ → ℕ
argument_count c i = low c (i + place.kind_cell)

abbrev pub argument_cell : ℕ → ℕ → ℕ
argument_cell i j = i + place.argument_cells + place.given_size * j

unfoldable pub call_in : List ℕ → List ℕ → ℕ → Call
call_in s c i =
    record {
      at = high c i;
      name_at = high c (i + place.name_cell);
      name = given_in s c (i + place.name_cell);
      args = tab (argument_count c i) (λ j. given_in s c (argument_cell i j));
      arg_places = tab (argument_count c i) (λ j. high c (argument_cell i j));
    }

unfoldable pub change_in : List ℕ → List ℕ → ℕ → Change
change_in s c i =
    record {
      start = high c i;
      stop = low c i;
      pieces = cond (is_value c i) (value (low c (i + place.kind_cell)) ∷ []) (cond (is_call c i) (called (call_in s c i) ∷ []) []);
    }

unfoldable pub size_at : List ℕ → ℕ → ℕ
size_at c i = cond (is_call c i) (argument_cell 0 (argument_count c i)) place.small_size

-- so many changes from a cell on, and the cell behind them
unfoldable pub changes_in : List ℕ → List ℕ → ℕ → ℕ → List Change
changes_in s c i zero = []
changes_in s c i (suc n) = change_in s c i ∷ changes_in s c (i + size_at c i) n

unfoldable pub behind_changes : List ℕ → ℕ → ℕ → ℕ
behind_changes c i zero = i
behind_changes c i (suc n) = behind_changes c (i + size_at c i) n

-- a macro. The section is one without name and parameters
abbrev pub parameter_count : List ℕ → ℕ → ℕ
parameter_count c i = high c (i + place.counts_cell)

abbrev pub change_count : List ℕ → ℕ → ℕ
change_count c i = low c (i + place.counts_cell)

abbrev pub first_change : List ℕ → ℕ → ℕ
first_change c i = i + place.parameter_cells + parameter_count c i

unfoldable pub body_in : List ℕ → List ℕ → ℕ → List Piece
body_in s c i = pieces_from s (high c (i + place.span_cell)) (low c (i + place.span_cell)) (changes_in s c (first_change c i) (change_count c i))

unfoldable pub macro_in : List ℕ → List ℕ → ℕ → Macro
macro_in s c i =
    record {
      name = bytes_at s c i;
      params = tab (parameter_count c i) (λ j. bytes_at s c (i + place.parameter_cells + j));
      body = body_in s c i;
    }

-- the list: so many macros, each from its first cell on
unfoldable pub macros_in : List ℕ → List ℕ → List ℕ → ℕ → List Macro
macros_in s c firsts n = tab n (λ k. macro_in s c (get_or firsts k 0))

-- the arguments within the innermost of so many calls, each call within the one before
unfoldable pub arguments_in : List ℕ → List ℕ → List ℕ → ℕ → List (List ℕ)
arguments_in s c calls zero = []
arguments_in s c calls (suc d) = map (filled_in (arguments_in s c calls d)) (call_in s c (get_or calls d 0)).args
