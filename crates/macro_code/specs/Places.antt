-- Where the numbers of a macro, of a change and of what a call gives stand, counted from the first cell of each; each number once. The same numbers are
-- constants of the type in src/, and `places` there ties the two.
use Rattle.std.specs.Prelude.{List, [], ◌∷◌, ℕ}

-- what a cell's first number is multiplied by
abbrev pub half : ℕ
half = 65536

-- a macro: its name; where its body begins and ends; how many parameters and changes it has; its parameters, then its changes
abbrev pub span_cell : ℕ
span_cell = 1

abbrev pub counts_cell : ℕ
counts_cell = 2

abbrev pub parameter_cells : ℕ
parameter_cells = 3

-- a change: where it begins and ends; its kind with a parameter's number or a call's count of arguments, and no more cells; or a call's name and its arguments
abbrev pub kind_cell : ℕ
kind_cell = 1

abbrev pub small_size : ℕ
small_size = 2

abbrev pub name_cell : ℕ
name_cell = 2

abbrev pub argument_cells : ℕ
argument_cells = 4

-- a name or an argument: its bytes as typed; what it is, with a parameter's number
abbrev pub given_size : ℕ
given_size = 2

-- the kinds of changes: a parameter's value, a call, or nothing, where a call is ill formed; and of names and arguments
abbrev pub value_kind : ℕ
value_kind = 0

abbrev pub call_kind : ℕ
call_kind = 1

abbrev pub nothing_kind : ℕ
nothing_kind = 2

abbrev pub typed_kind : ℕ
typed_kind = 0

abbrev pub parameter_kind : ℕ
parameter_kind = 1

abbrev pub joined_kind : ℕ
joined_kind = 2

-- the cells that a text may need, two for each byte and four besides; and its macros, each of three bytes at least
abbrev pub cells : ℕ
cells = 65540

abbrev pub macros : ℕ
macros = 10923

abbrev pub all_places : List ℕ
all_places =
    half ∷ span_cell ∷ counts_cell ∷ parameter_cells ∷ kind_cell ∷ small_size ∷ name_cell ∷ argument_cells ∷ given_size ∷ value_kind ∷ call_kind ∷ nothing_kind
    ∷ typed_kind ∷ parameter_kind ∷ joined_kind ∷ cells ∷ macros ∷ []
