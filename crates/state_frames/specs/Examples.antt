-- Saved states, computed: the state that start makes, a state with every kind of frame, and what brings 68 or 69.
use Rattle.std.specs.Prelude.{◌≡◌, refl, true, false, List, [], ◌∷◌, ◌++◌, ℕ, replicate, negsuc}
use Rattle.lists.specs.Quoted.{bytes}
use Rattle.language.specs.Values.{Component, State, empty_file}
use Rattle.language.specs.Values.Component.{word, address}
use Rattle.machine.specs.WellFormed.{started}
use Rattle.layout.specs.Cells.{code}
use Rattle.layout.specs.Components.{component_bytes, components_bytes, record_bytes, records_bytes, component_in, components_from, components_in, record_in, records_from, records_in}
use Rattle.layout.specs.Cells.{uncode, tab}
use Rattle.layout.specs.Memory.{threes_in, files_in, twos_in, state_by}
use Rattle.state_frames.specs.Hexadecimal.{digit, digit_value, is_digit, hexadecimal, line, is_line, bytes_in}
use Rattle.text_lines.specs.Lines.{lines}
use Rattle.state_frames.specs.Frames.{frame_bytes, frames_text, frame_in, sound_line, sound_text, frames_in}
use Rattle.state_frames.specs.Saved.{file_contents, numbered, slots, frames_of, saved, contents_at, strings_by, numbers_by, restored}

-- everything that a text of frames computes with, to be named on an `unfolding` line
unfoldable pub opened : Unit {0}
unfolding code uncode tab component_bytes components_bytes record_bytes records_bytes component_in components_from components_in record_in records_from records_in threes_in files_in twos_in state_by digit digit_value is_digit hexadecimal line is_line bytes_in lines frame_bytes frames_text frame_in sound_line sound_text frames_in file_contents numbered slots frames_of saved contents_at strings_by numbers_by restored
opened = tt

-- the state that start makes is a head: H plus, all else zero
start-saved : saved started ≡ bytes "0100000F010000000000000000000000000000EF\n"
unfolding opened started
start-saved = refl

-- H minus, a character of I1 read, instruction 9 next, address 2 given; E1 `ALA`, -20; E3 the address 1; P2 two records, the pointer between
-- them; Q2 `OK`; one return
abbrev state : State
state =
    record {
      store = record {
        exprs = (word (bytes "ALA") ∷ Component.number (negsuc 19) ∷ []) ∷ [] ∷ (address 1 ∷ []) ∷ replicate 29 [];
        files =
            empty_file
            ∷ record { before = record { addr = 1; parts = word (bytes "A") ∷ [] } ∷ []; after = record { addr = 2; parts = word (bytes "B") ∷ [] } ∷ [] }
            ∷ replicate 30 empty_file;
        plus = false;
        outputs = [] ∷ bytes "OK" ∷ [];
        places = 1 ∷ 0 ∷ [];
        last = 2;
      };
      next = 9;
      stack = 9 ∷ [];
    }

abbrev text : List ℕ
text =
    bytes "0100000F000000010000000000090000020000E4\n"
    ++ (bytes "0201000903414C410001EBFF7FB9\n"
    ++ (bytes "020300050002010000F3\n"
    ++ (bytes "0302001409000100000200014102000200000200014202004E\n"
    ++ (bytes "040200024F4B5E\n"
    ++ (bytes "050000020900F0\n")))))

state-saved : saved state ≡ text
unfolding opened
state-saved = refl

state-back : restored (frames_in text) ≡ state
unfolding opened
state-back = refl

-- "is every line hexadecimal with its length and sum right?" Small letters, a sum, a length, an empty line, a line without its LF
not-68 : sound_text text ≡ true
unfolding opened
not-68 = refl

small-letters : sound_text (bytes "0100000F010000000000000000000000000000ef\n") ≡ false
unfolding opened
small-letters = refl

wrong-sum : sound_text (bytes "0100000F010000000000000000000000000000EE\n") ≡ false
unfolding opened
wrong-sum = refl

wrong-length : sound_text (bytes "0100000E010000000000000000000000000000F0\n") ≡ false
unfolding opened
wrong-length = refl

empty-line : sound_text (bytes "\n") ≡ false
unfolding opened
empty-line = refl

open-line : sound_text (bytes "0100000F010000000000000000000000000000EF") ≡ false
unfolding opened
open-line = refl
