-- Question 63 as the code asks it: m is the 40,960 cells of a state, p the program, and i and j are the inputs.
use Rattle.std.specs.Prelude.{Bool, ◌&&◌, List, [], ℕ, ◌+◌, ◌%◌, leb, ltb, eqb, length, get_or, take, drop}
use Rattle.characters.specs.Characters.{known}
use Rattle.check_strings.specs.Sound.{sound_components, sound_records}
use Rattle.language.specs.Limits as limit
use Rattle.language.specs.Program.{Program}
use Rattle.language.specs.Values.{chars}
use Rattle.layout.specs.Cells.{three_at}
use Rattle.layout.specs.Components.{components_in, records_in, addresses_in}
use Rattle.layout.specs.Memory.{twos_in}
use Rattle.layout.specs.Strings.{lengths_in, strings_in}
use Rattle.layout.specs.Places as layout
use Rattle.lists.specs.Lists.{total, all, each}
use Rattle.machine.specs.WellFormed.{different, good_return}
use Rattle.records.specs.Sequences.{part_total, char_total}

-- ---- the cells

-- how long the 99 strings are, and how long together
abbrev pub sizes : List ℕ → List ℕ
sizes m = lengths_in layout.strings_count (drop layout.first_length m)

abbrev pub sum : List ℕ → ℕ
sum ns = total (λ n. n) ns

abbrev pub zeros : List ℕ → Bool
zeros l = all (λ x. eqb x 0) l

-- H and the last address given are in range, the strings have room, and what stands behind them is zero
unfoldable pub laid : List ℕ → Bool
laid m = leb (three_at layout.plus_cell m) 1 && leb (three_at layout.last_cell m) limit.addresses && leb (sum (sizes m)) layout.room && zeros (drop (layout.first_byte + sum (sizes m)) m)

-- ---- the strings

abbrev pub all_strings : List ℕ → List (List ℕ)
all_strings m = strings_in (drop layout.first_length m)

abbrev pub expressions : List ℕ → List (List ℕ)
expressions m = take limit.expressions (all_strings m)

-- two strings for each file
abbrev pub halves : List ℕ → List (List ℕ)
halves m = take layout.file_strings_count (drop layout.first_file (all_strings m))

unfoldable pub sound : List ℕ → Bool
sound m = all (sound_components (three_at layout.last_cell m)) (expressions m) && all (sound_records (three_at layout.last_cell m)) (halves m)

-- ---- the totals

abbrev pub expression_parts : List ℕ → ℕ
expression_parts v = total (λ x. 1) (components_in v)

abbrev pub expression_chars : List ℕ → ℕ
expression_chars v = total (λ x. length (chars x)) (components_in v)

abbrev pub all_parts : List ℕ → ℕ
all_parts m = total expression_parts (expressions m) + total (λ v. part_total (records_in v)) (halves m)

abbrev pub all_chars : List ℕ → ℕ
all_chars m = total expression_chars (expressions m) + total (λ v. char_total (records_in v)) (halves m)

abbrev pub record_count : List ℕ → ℕ
record_count m = total (λ v. length (records_in v)) (halves m)

-- a total is the one told, and within its limit
abbrev pub is_total : ℕ → ℕ → ℕ → Bool
is_total most told n = eqb n told && leb n most

unfoldable pub counted : List ℕ → Bool
counted m =
    is_total limit.components (three_at layout.components_cell m) (all_parts m)
    && is_total limit.characters (three_at layout.characters_cell m) (all_chars m)
    && is_total limit.records (three_at layout.records_cell m) (record_count m)

-- ---- the addresses, and the rest

unfoldable pub distinct : List ℕ → Bool
distinct m = different eqb (each addresses_in (halves m))

abbrev pub sound_stack : Program → List ℕ → Bool
sound_stack p v = eqb (length v % 2) 0 && leb (length v) 128 && all (good_return p) (twos_in v)

abbrev pub sound_output : List ℕ → Bool
sound_output v = leb (length v) limit.output && all known v

unfoldable pub fitting : Program → List ℕ → List ℕ → List ℕ → Bool
fitting p i j m =
    sound_stack p (get_or (all_strings m) layout.stack_string [])
    && (sound_output (get_or (all_strings m) layout.first_output []) && sound_output (get_or (all_strings m) layout.second_output []))
    && (leb (three_at layout.first_place_cell m) (length i) && leb (three_at layout.second_place_cell m) (length j))
    && ltb (three_at layout.next_cell m) (length p.code)
