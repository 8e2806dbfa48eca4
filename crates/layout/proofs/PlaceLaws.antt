-- How the places hang together: each block begins where the one before it ends.
use Rattle.std.specs.Prelude.{◌≡◌, refl, [], ◌∷◌, ◌+◌, ◌*◌}
use Rattle.machine.specs.Below.Limits as limit
use Rattle.layout.specs.Places.{first_instruction, first_argument, second_argument, third_argument, first_label, first_name, first_text, first_characters, first_switch, first_entry, first_number, first_place, second_place, next_scalar, scalars_count, plus_scalar, last_scalar, components_scalar, characters_scalar, records_scalar, plus_cell, first_place_cell, second_place_cell, next_cell, last_cell, components_cell, characters_cell, records_cell, first_length, first_byte, first_file, file_strings_count, stack_string, first_output, second_output, strings_count, ends_count, lengths_bytes, strings_bytes, room}

-- an instruction has 4 cells, a label and a text 16
pub table-blocks : first_argument ∷ second_argument ∷ third_argument ∷ first_label ∷ first_name ∷ first_text ∷ first_characters
    ∷ first_switch ∷ first_entry ∷ first_number ∷ []
    ≡ (first_instruction + 1) ∷ (first_instruction + 2) ∷ (first_instruction + 3) ∷ (first_instruction + 4 * limit.instructions)
    ∷ (first_label + 1) ∷ (first_label + 16 * limit.labels) ∷ (first_text + 1) ∷ (first_text + 16 * limit.texts)
    ∷ (first_switch + limit.switches) ∷ (first_entry + limit.entries) ∷ []
table-blocks = refl

pub scalar-cells : plus_cell ∷ first_place_cell ∷ second_place_cell ∷ next_cell ∷ last_cell
    ∷ components_cell ∷ characters_cell ∷ records_cell ∷ first_length ∷ []
    ≡ (3 * plus_scalar) ∷ (3 * first_place) ∷ (3 * second_place) ∷ (3 * next_scalar) ∷ (3 * last_scalar)
    ∷ (3 * components_scalar) ∷ (3 * characters_scalar) ∷ (3 * records_scalar) ∷ (3 * scalars_count) ∷ []
scalar-cells = refl

pub state-blocks : second_place ∷ next_scalar ∷ first_file ∷ file_strings_count ∷ stack_string
    ∷ first_output ∷ second_output ∷ strings_count ∷ ends_count ∷ lengths_bytes
    ∷ first_byte ∷ strings_bytes ∷ (first_byte + room) ∷ []
    ≡ (first_place + 1) ∷ (first_place + limit.inputs) ∷ limit.expressions ∷ (2 * limit.files) ∷ (first_file + file_strings_count)
    ∷ (stack_string + 1) ∷ (first_output + 1) ∷ (first_output + limit.outputs) ∷ (2 * strings_count) ∷ (2 * strings_count)
    ∷ (first_length + lengths_bytes) ∷ (lengths_bytes + room) ∷ limit.state ∷ []
state-blocks = refl
