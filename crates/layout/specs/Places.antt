-- The places of both layouts by their names, each number once (docs/LAYOUT.md has them in words). The same numbers are constants of the types in
-- src/, and `places` and `sizes` there tie the two.
use Rattle.std.specs.Prelude.{List, [], ◌∷◌, ℕ, ◌+◌, ◌*◌}

-- ---- the program table

-- cells of the counts: of instructions, labels, switches, entries, texts and numbers; and two that are zero
abbrev pub instruction_count : ℕ
instruction_count = 0

abbrev pub label_count : ℕ
label_count = 1

abbrev pub switch_count : ℕ
switch_count = 2

abbrev pub entry_count : ℕ
entry_count = 3

abbrev pub text_count : ℕ
text_count = 4

abbrev pub number_count : ℕ
number_count = 5

abbrev pub first_spare : ℕ
first_spare = 6

abbrev pub last_spare : ℕ
last_spare = 7

-- cells where the first instruction with its arguments, the first label with its name, the first text with its characters, and the first switch, entry
-- and number stand
abbrev pub first_instruction : ℕ
first_instruction = 8

abbrev pub first_argument : ℕ
first_argument = 9

abbrev pub second_argument : ℕ
second_argument = 10

abbrev pub third_argument : ℕ
third_argument = 11

abbrev pub first_label : ℕ
first_label = 2056

abbrev pub first_name : ℕ
first_name = 2057

abbrev pub first_text : ℕ
first_text = 4104

abbrev pub first_characters : ℕ
first_characters = 4105

abbrev pub first_switch : ℕ
first_switch = 6152

abbrev pub first_entry : ℕ
first_entry = 6184

abbrev pub first_number : ℕ
first_number = 6312

-- how many cells an instruction has, a label and a text
abbrev pub instruction_size : ℕ
instruction_size = 4

abbrev pub label_size : ℕ
label_size = 16

abbrev pub text_size : ℕ
text_size = 16

-- how many numbers are small, -15 to 15: references below it are theirs, and it and those after it refer to the table of numbers
abbrev pub small_numbers : ℕ
small_numbers = 31

-- references below it are those of texts of no character and of one, and it and those after it refer to the table of texts
abbrev pub short_texts : ℕ
short_texts = 256

-- ---- the state

-- the scalars in their order: H, the read places of the inputs, the next instruction, the last address given, and the totals of components,
-- characters and records
abbrev pub plus_scalar : ℕ
plus_scalar = 0

abbrev pub first_place : ℕ
first_place = 1

abbrev pub second_place : ℕ
second_place = 2

abbrev pub next_scalar : ℕ
next_scalar = 3

abbrev pub last_scalar : ℕ
last_scalar = 4

abbrev pub components_scalar : ℕ
components_scalar = 5

abbrev pub characters_scalar : ℕ
characters_scalar = 6

abbrev pub records_scalar : ℕ
records_scalar = 7

abbrev pub scalars_count : ℕ
scalars_count = 8

-- their cells at rest, three each; behind them the lengths of the strings, and the strings' bytes
abbrev pub plus_cell : ℕ
plus_cell = 0

abbrev pub first_place_cell : ℕ
first_place_cell = 3

abbrev pub second_place_cell : ℕ
second_place_cell = 6

abbrev pub next_cell : ℕ
next_cell = 9

abbrev pub last_cell : ℕ
last_cell = 12

abbrev pub components_cell : ℕ
components_cell = 15

abbrev pub characters_cell : ℕ
characters_cell = 18

abbrev pub records_cell : ℕ
records_cell = 21

abbrev pub first_length : ℕ
first_length = 24

abbrev pub first_byte : ℕ
first_byte = 222

-- the strings: expressions, from 0 on; files, two strings each; the return stack; outputs. At work each string has two ends
abbrev pub first_file : ℕ
first_file = 32

abbrev pub file_strings_count : ℕ
file_strings_count = 64

abbrev pub stack_string : ℕ
stack_string = 96

abbrev pub first_output : ℕ
first_output = 97

abbrev pub second_output : ℕ
second_output = 98

abbrev pub strings_count : ℕ
strings_count = 99

abbrev pub ends_count : ℕ
ends_count = 198

-- cells of the lengths, of lengths and bytes together, and of the bytes
abbrev pub lengths_bytes : ℕ
lengths_bytes = 198

abbrev pub strings_bytes : ℕ
strings_bytes = 40936

abbrev pub room : ℕ
room = 40738

-- cells of a row that any string fits in: at work all strings together have so many bytes at most
abbrev pub row : ℕ
row = 32768

-- the strings of file i, before and after its pointer, and of output i; files and outputs are counted from 0 here
abbrev pub before_string : ℕ → ℕ
before_string i = first_file + 2 * i

abbrev pub after_string : ℕ → ℕ
after_string i = first_file + (2 * i + 1)

abbrev pub output_string : ℕ → ℕ
output_string i = first_output + i

-- ---- all of them

-- in the order above
abbrev pub listed : List ℕ
listed =
    instruction_count ∷ label_count ∷ switch_count ∷ entry_count ∷ text_count ∷ number_count ∷ first_spare ∷ last_spare
    ∷ first_instruction ∷ first_argument ∷ second_argument ∷ third_argument ∷ first_label ∷ first_name ∷ first_text
    ∷ first_characters ∷ first_switch ∷ first_entry ∷ first_number ∷ plus_scalar ∷ first_place ∷ second_place ∷ next_scalar
    ∷ last_scalar ∷ components_scalar ∷ characters_scalar ∷ records_scalar ∷ scalars_count ∷ plus_cell ∷ first_place_cell
    ∷ second_place_cell ∷ next_cell ∷ last_cell ∷ components_cell ∷ characters_cell ∷ records_cell ∷ first_length
    ∷ first_byte ∷ first_file ∷ file_strings_count ∷ stack_string ∷ first_output ∷ second_output ∷ strings_count
    ∷ ends_count ∷ lengths_bytes ∷ strings_bytes ∷ room ∷ []

-- and the sizes and counts
abbrev pub sizes : List ℕ
sizes = instruction_size ∷ label_size ∷ text_size ∷ small_numbers ∷ short_texts ∷ row ∷ []
